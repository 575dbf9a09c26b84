-- A history: the accepted commands, the newest first.
use Rattle.std.specs.Prelude.{if◌then◌else◌, ℕ, List, [], ◌∷◌, Bool, true, false, ◌==◌, ◌&&◌, ◌||◌, nat_lt, filter, length}
use Rattle.house_rows.specs.declared.command.Command.{Command}
use Rattle.house_rows.specs.declared.command.Command.TheVariants.{Watch, Unwatch, Ask}

-- an accepted command: when, by whom and what
pub record Entry : Type 0 where
  pub moment : ℕ
  pub caller : ℕ
  pub command : Command

-- the accepted commands, the newest first
abbrev pub History : Type 0
History = List Entry

-- Watch, Unwatch and Ask leave the clock
abbrev pub moves_clock : Command → Bool
moves_clock (Watch i) = false
moves_clock (Unwatch i) = false
moves_clock (Ask i text) = false
moves_clock _ = true

-- the clock: the moment of the last entry that moves it, or 0
abbrev pub clock : History → ℕ
clock [] = 0
clock (e ∷ h) = if moves_clock e.command then e.moment else clock h

-- how many pass a test
abbrev pub counted : {A : Type 0} → (A → Bool) → List A → ℕ
counted passes xs = length (filter passes xs)

-- a key of up to three numbers
pub record Key : Type 0 where
  pub first : ℕ
  pub second : ℕ
  pub third : ℕ

-- keys go by the first number, then the second, then the third
abbrev pub is_less : Key → Key → Bool
is_less a b = nat_lt a.first b.first || ((a.first == b.first) && (nat_lt a.second b.second || ((a.second == b.second) && nat_lt a.third b.third)))

-- a row put in its place: before the first row with a greater key
abbrev pub put_by : {A : Type 0} → (A → Key) → A → List A → List A
put_by key x [] = x ∷ []
put_by key x (y ∷ ys) = if is_less (key x) (key y) then x ∷ y ∷ ys else y ∷ put_by key x ys
