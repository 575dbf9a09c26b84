-- What a look-up before a change says of its key.
use Rattle.std.proofs.Common.{◌≡◌, Option, Some, None, Result, Ok, Err, true, false, sym, ◌∙◌, true≢false, ap}
use Rattle.std.specs.Prelude.{is_some, OnOk}

pub on_ok : {T E P : Type 0} (r : Result T E) → P → OnOk r P
on_ok (Ok x) p = p
on_ok (Err e) p = tt

-- nothing was found
pub none_there : {X : Type 0} (found there : Option X) → is_some found ≡ false → found ≡ there → there ≡ None
none_there None there h e = sym e
none_there (Some x) there h e = absurd (true≢false h)

-- something was found, where there is nothing
pub some_there : {X : Type 0} (found there : Option X) → is_some found ≡ true → found ≡ there → there ≡ None → ⊥
some_there found there h e none = true≢false (sym h ∙ ap is_some (e ∙ none))
