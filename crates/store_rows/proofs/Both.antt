-- Facts about an answer, put together.
use Rattle.std.proofs.Common.{Ok, Err, Result, IfOk}

pub ok_both : {T E : Type 0} {P Q R : T → Type 0} (r : Result T E) → IfOk r P → IfOk r Q → ((x : T) → P x → Q x → R x) → IfOk r R
ok_both (Ok x) h k f = f x h k
ok_both (Err e) h k f = h
