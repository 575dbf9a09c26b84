-- Twin runs, one place longer, and what is before it.
use Rattle.std.proofs.Common.{if◌then◌else◌, ◌≡◌, ◌⊎◌, ◌∙◌, ◌++◌, ◌∷◌, [], ℕ, zero, suc, List, false, map, take, length, refl, sym, ap, inl, inr, append-nil, append_assoc}
use Rattle.house_rows.specs.declared.message.Message.{Message}
use Rattle.house_rows.specs.declared.reply.Reply.{Reply}
use Rattle.house_rows.specs.declared.settings.Settings.{Settings}
use Rattle.house_rows.specs.History.{History}
use Rattle.house_rows.specs.Runs.{Agrees, AreTwinsFrom, history_from, is_of, next, rendered_from, reply}

-- what holds at one place of twin runs
abbrev pub TwinAt : {A F : Type 0} → (A → Message F) → Settings → ℕ → History → History → A → A
    → Type 0
TwinAt meant settings c h k x y =
    ((x ≡ y) ⊎ ((is_of c (meant x) ≡ false) × (is_of c (meant y) ≡ false)))
    × Agrees settings c (next settings h (meant x)) (next settings k (meant y))

-- twin runs, and one more place that holds, are twin runs
pub twins_more : {A F : Type 0} (meant : A → Message F) (settings : Settings) (c : ℕ)
    (h k : History) (xs ys : List A) (x y : A) → AreTwinsFrom meant settings c h k xs ys
    → TwinAt meant settings c (history_from settings h (map meant xs))
    (history_from settings k (map meant ys)) x y
    → AreTwinsFrom meant settings c h k (xs ++ x ∷ []) (ys ++ y ∷ [])
twins_more meant settings c h k [] [] x y twin here = (here.0, here.1, tt)
twins_more meant settings c h k [] (b ∷ ys) x y twin here = absurd twin
twins_more meant settings c h k (a ∷ xs) [] x y twin here = absurd twin
twins_more meant settings c h k (a ∷ xs) (b ∷ ys) x y twin here = (
  twin.0,
  twin.1,
  twins_more meant settings c (next settings h (meant a)) (next settings k (meant b)) xs ys x y
      twin.2 here,
)

-- and at the last place of twin runs it holds, where what is before it are twin runs
pub twins_last : {A F : Type 0} (meant : A → Message F) (settings : Settings) (c : ℕ)
    (h k : History) (xs ys : List A) (x y : A) → AreTwinsFrom meant settings c h k xs ys
    → AreTwinsFrom meant settings c h k (xs ++ x ∷ []) (ys ++ y ∷ [])
    → TwinAt meant settings c (history_from settings h (map meant xs))
    (history_from settings k (map meant ys)) x y
twins_last meant settings c h k [] [] x y before twin = (twin.0, twin.1)
twins_last meant settings c h k [] (b ∷ ys) x y before twin = absurd before
twins_last meant settings c h k (a ∷ xs) [] x y before twin = absurd before
twins_last meant settings c h k (a ∷ xs) (b ∷ ys) x y before twin =
    twins_last meant settings c (next settings h (meant a)) (next settings k (meant b)) xs ys x y
    before.2 twin.2

-- twin runs are of one length
pub twins_length : {A F : Type 0} (meant : A → Message F) (settings : Settings) (c : ℕ)
    (h k : History) (xs ys : List A) → AreTwinsFrom meant settings c h k xs ys
    → length xs ≡ length ys
twins_length meant settings c h k [] [] twin = refl
twins_length meant settings c h k [] (b ∷ ys) twin = absurd twin
twins_length meant settings c h k (a ∷ xs) [] twin = absurd twin
twins_length meant settings c h k (a ∷ xs) (b ∷ ys) twin =
    ap suc (twins_length meant settings c (next settings h (meant a)) (next settings k (meant b))
    xs ys twin.2)

-- the first so many places of twin runs are twin runs
pub twins_take : {A F : Type 0} (meant : A → Message F) (settings : Settings) (c : ℕ) (n : ℕ)
    (h k : History) (xs ys : List A) → AreTwinsFrom meant settings c h k xs ys
    → AreTwinsFrom meant settings c h k (take n xs) (take n ys)
twins_take meant settings c zero h k xs ys twin = tt
twins_take meant settings c (suc n) h k [] [] twin = tt
twins_take meant settings c (suc n) h k [] (b ∷ ys) twin = absurd twin
twins_take meant settings c (suc n) h k (a ∷ xs) [] twin = absurd twin
twins_take meant settings c (suc n) h k (a ∷ xs) (b ∷ ys) twin = (
  twin.0,
  twin.1,
  twins_take meant settings c n (next settings h (meant a)) (next settings k (meant b)) xs ys
      twin.2,
)

-- elements that are read by what each of them stands for are twin runs of it
pub twins_read : {A B F : Type 0} (f : A → B) (meant : B → Message F) (settings : Settings) (c : ℕ)
    (h k : History) (xs ys : List A) → AreTwinsFrom (λ x. meant (f x)) settings c h k xs ys
    → AreTwinsFrom meant settings c h k (map f xs) (map f ys)
twins_read f meant settings c h k [] [] twin = tt
twins_read f meant settings c h k [] (b ∷ ys) twin = absurd twin
twins_read f meant settings c h k (a ∷ xs) [] twin = absurd twin
twins_read f meant settings c h k (a ∷ xs) (b ∷ ys) twin = (
  here twin.0,
  twin.1,
  twins_read f meant settings c (next settings h (meant (f a))) (next settings k (meant (f b))) xs
      ys twin.2,
)
  where
    here : (a ≡ b) ⊎ ((is_of c (meant (f a)) ≡ false) × (is_of c (meant (f b)) ≡ false))
        → (f a ≡ f b) ⊎ ((is_of c (meant (f a)) ≡ false) × (is_of c (meant (f b)) ≡ false))
    here (inl e) = inl (ap f e)
    here (inr apart) = inr apart

-- the history after one more message
pub history_more : {F : Type 0} (settings : Settings) (h : History) (ms : List (Message F))
    (m : Message F) → history_from settings h (ms ++ m ∷ [])
    ≡ next settings (history_from settings h ms) m
history_more settings h [] m = refl
history_more settings h (a ∷ ms) m = history_more settings (next settings h a) ms m

-- the replies after one more message
pub replies_more : {A B F : Type 0} (meant : A → Message F) (rendered : A → Reply F → B)
    (settings : Settings) (c : ℕ) (h : History) (xs : List A) (x : A)
    → rendered_from meant rendered settings c h (xs ++ x ∷ [])
    ≡ rendered_from meant rendered settings c h xs
    ++ (if is_of c (meant x) then rendered x
    (reply settings (history_from settings h (map meant xs)) (meant x)) ∷ [] else [])
replies_more meant rendered settings c h [] x = append-nil _
replies_more meant rendered settings c h (a ∷ xs) x =
    ap (λ rest. (if is_of c (meant a) then rendered a (reply settings h (meant a)) ∷ [] else [])
    ++ rest) (replies_more meant rendered settings c (next settings h (meant a)) xs x)
    ∙ sym (append_assoc
    (if is_of c (meant a) then rendered a (reply settings h (meant a)) ∷ [] else [])
    (rendered_from meant rendered settings c (next settings h (meant a)) xs)
    (if is_of c (meant x) then rendered x
    (reply settings (history_from settings (next settings h (meant a)) (map meant xs)) (meant x))
    ∷ [] else []))
