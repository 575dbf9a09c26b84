-- Maps by texts whose bytes are shared.
use Rattle.std.specs.Prelude.{ℕ, List, Option}
use Rattle.std.specs.HashMap.{HashMap, get_by}
use Rattle.std.specs.Rc.{rc_str_bytes}
use Rattle.std.specs.Str.{bytes_eq}
use Rattle.std.specs.declared.rc.RcStr.{RcStr}

-- the value at the key of those bytes
abbrev pub get_by_shared : {Z X S : Type 0} → HashMap (RcStr Z) X S → List ℕ → Option X
get_by_shared map bytes = get_by (λ key. bytes_eq bytes (rc_str_bytes key)) map
