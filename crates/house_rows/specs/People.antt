-- Members and categories, each with the next number.
use Rattle.std.specs.Prelude.{ℕ, ◌+◌, List, [], ◌∷◌, ◌++◌, length}
use Rattle.house_rows.specs.declared.command.Command.{Command}
use Rattle.house_rows.specs.declared.command.Command.TheVariants.{Register, AddCategory}
use Rattle.house_rows.specs.declared.people.Member.{Member}
use Rattle.house_rows.specs.declared.people.Category.{Category}
use Rattle.house_rows.specs.History.{History}

-- the member that a command registers, if it does
abbrev pub member_in : ℕ → Command → List Member
member_in number (Register name) = record { member = number; name = name } ∷ []
member_in number _ = []

-- the members, in order of registration
abbrev pub members : History → List Member
members [] = []
members (e ∷ h) = members h ++ member_in (length (members h) + 1) e.command

-- the category that a command adds, if it does
abbrev pub category_in : ℕ → Command → List Category
category_in number (AddCategory name) = record { category = number; name = name } ∷ []
category_in number _ = []

-- the categories, in the order in which they came
abbrev pub categories : History → List Category
categories [] = []
categories (e ∷ h) = categories h ++ category_in (length (categories h) + 1) e.command
