-- Members that are written one after the other.
use Rattle.std.proofs.Common.{◌≡◌, ℕ, List, [], ◌∷◌, ◌++◌, length, take, ap, sym, ◌∙◌, append_assoc, append-nil}
use Rattle.serde_json.specs.Data.{Data}
use Rattle.pages_json.specs.Words.{members_text}
use Rattle.pages_json.proofs.Texts as texts
use Rattle.pages_json.proofs.Texts.{members_append}

-- what begins with a begins with what a begins with
pub front_then : (a b c : List ℕ) → take (length a) b ≡ a → take (length b) c ≡ b → take (length a) c ≡ a
front_then a b c ab bc = texts.front_then a b c ab bc

-- a text, and after it members that are appended one at a time
abbrev pub with_each : List ℕ → List (List ℕ × Data) → List ℕ
with_each old [] = old
with_each old (m ∷ ms) = with_each (old ++ members_text (m ∷ [])) ms

-- they are the text of all of them
pub each_is_all : (ms : List (List ℕ × Data)) (old : List ℕ) → with_each old ms ≡ old ++ members_text ms
unfolding members_text
each_is_all [] old = sym (append-nil old)
each_is_all (m ∷ ms) old =
    each_is_all ms (old ++ members_text (m ∷ [])) ∙ append_assoc old (members_text (m ∷ [])) (members_text ms)
    ∙ ap (λ t. old ++ t) (sym (members_append (m ∷ []) ms))

-- one of them, whose value may be told in another way, and those after it
pub one_more : (old now : List ℕ) (ms : List (List ℕ × Data)) (name : List ℕ) (had has : Data) → now ≡ old ++ members_text ((name, had) ∷ []) → had ≡ has
    → with_each now ms ≡ with_each old ((name, has) ∷ ms)
one_more old now ms name had has put same = ap (λ t. with_each t ms) (put ∙ ap (λ d. old ++ members_text ((name, d) ∷ [])) same)
