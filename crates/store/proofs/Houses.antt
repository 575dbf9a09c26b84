-- What a crash leaves of a keep is a house.
use Rattle.std.proofs.Common.{◌≡◌, ◌∙◌, [], find, Option, Some, None, ap, arith, inl, inr, subst, sym}
use Rattle.std.specs.Prelude.{◌==◌, IsTrue, option_map, unwrap_or}
use Rattle.sqlite.specs.Effect.{Database, IsDatabase}
use Rattle.sqlite.specs.State.{HasCleanDisk, State, Survives}
use Rattle.sqlite_trees.specs.Tree.{Trees}
use Rattle.house_rows.specs.declared.change.Change.{Change}
use Rattle.store_rows.specs.Commits.{LeavesShown, MadeBy}
use Rattle.store_rows.specs.declared.house.HouseRow.{HouseRow}
use Rattle.store_rows.specs.Fitting.{HouseRowFits}
use Rattle.store_rows.specs.House.{IsHouse}
use Rattle.store_rows.specs.Rows.{houses_in}
use Rattle.store_rows.specs.Tables.{IsAtRest, house_row_in, version_in}
use Rattle.store_house.proofs.OpenLemmas.{one_schema}
use Rattle.store.specs.Kept.{LeavesHouses, LeavesOneSchema, LeavesVersion}

-- at rest a crash leaves what was committed
pub rests_in_houses : (s : State) → ((db : Trees) → IsTrue s.is_open → s.may_leave db → db ≡ s.committed.trees)
    → (HasCleanDisk s → IsAtRest s) → LeavesHouses s
rests_in_houses s settled rests honest db may =
    let rest = rests honest in
    (s.now, rest.house, settled db rest.is_open may ∙ ap (λ (d : Database). d.trees) (sym rest.settled))

-- what a crash may leave are the trees of one database
module _ (s : State) (db : Database) (sound : IsDatabase db) (at : (found : Trees) → s.may_leave found → found ≡ db.trees) where
  has_schema : (one : Database) → IsDatabase one → s.may_leave one.trees → one.schema ≡ db.schema
  has_schema one is may = one_schema one db is (at one.trees may) sound

-- at rest all that it leaves has the schema of the house
pub rests_in_schema : (s : State) → ((db : Trees) → IsTrue s.is_open → s.may_leave db → db ≡ s.committed.trees)
    → (HasCleanDisk s → IsAtRest s) → LeavesOneSchema s
rests_in_schema s settled rests honest one two is also may left =
    let rest = rests honest in
    let at : (found : Trees) → s.may_leave found → found ≡ s.now.trees =
    λ found left. settled found rest.is_open left ∙ ap (λ (d : Database). d.trees) (sym rest.settled) in
    has_schema s s.now rest.house.sound at one is may ∙ sym (has_schema s s.now rest.house.sound at two also left)

-- after a change that is made it leaves what is shown
pub shown_houses : (s : State) → (HasCleanDisk s → LeavesShown s) → (HasCleanDisk s → IsHouse s.now) → LeavesHouses s
shown_houses s only house honest db may = (s.now, house honest, only honest db may)

pub shown_schema : (s : State) → (HasCleanDisk s → LeavesShown s) → (HasCleanDisk s → IsHouse s.now) → LeavesOneSchema s
shown_schema s only house honest one two is also may left =
    has_schema s s.now (house honest).sound (only honest) one is may ∙ sym (has_schema s s.now (house honest).sound (only honest) two also left)

-- a call that commits nothing leaves no more
pub houses_stay : (old new : State) → Survives old new (λ _. ⊥) → LeavesHouses old → LeavesHouses new
houses_stay old new survives houses honest db may =
    let before : HasCleanDisk old = omega (arith, survives.clean, honest) in
    elim (survives.crash honest db may) [ inl left ↦ houses before db left | inr none ↦ absurd none ]

pub schema_stays : (old new : State) → Survives old new (λ _. ⊥) → LeavesOneSchema old → LeavesOneSchema new
schema_stays old new survives alike honest one two is also may left =
    let before : HasCleanDisk old = omega (arith, survives.clean, honest) in
    let was : (db : Trees) → new.may_leave db → old.may_leave db = λ db m. elim (survives.crash honest db m) [ inl old_one ↦ old_one | inr none ↦ absurd none ] in
    alike before one two is also (was one.trees may) (was two.trees left)

-- one that fails leaves what it left before, or the change
pub houses_or_made : (change : Change) (old new : State) → Survives old new (MadeBy change old) → LeavesHouses old → LeavesHouses new
houses_or_made change old new survives houses honest db may =
    let before : HasCleanDisk old = omega (arith, survives.clean, honest) in
    elim (survives.crash honest db may) [ inl left ↦ houses before db left | inr made ↦ (made.0, made.1.house, made.2) ]

-- and a change of a house at rest leaves its schema
module _ (change : Change) (old new : State) (survives : Survives old new (MadeBy change old)) (settled : (db : Trees) → IsTrue old.is_open → old.may_leave db → db ≡ old.committed.trees)
    (rest : IsAtRest old) (honest : HasCleanDisk new) where
  before_or_made : (one : Database) → IsDatabase one → new.may_leave one.trees → one.schema ≡ old.now.schema
  before_or_made one is may = elim (survives.crash honest one.trees may) [
    | inl left ↦ one_schema one old.now is (settled one.trees rest.is_open left ∙ ap (λ (d : Database). d.trees) (sym rest.settled)) rest.house.sound
    | inr made ↦ one_schema one made.0 is made.2 made.1.house.sound ∙ made.1.schema
  ]

pub schema_or_made : (change : Change) (old new : State) → Survives old new (MadeBy change old) → ((db : Trees) → IsTrue old.is_open → old.may_leave db → db ≡ old.committed.trees)
    → (HasCleanDisk old → IsAtRest old) → LeavesOneSchema new
schema_or_made change old new survives settled rests honest one two is also may left =
    let rest = rests (omega (arith, survives.clean, honest)) in
    before_or_made change old new survives settled rest honest one is may ∙ sym (before_or_made change old new survives settled rest honest two also left)

-- ---- the version

-- a house whose row fits is of the version that an opening takes
version_of_found : (found : Option HouseRow) → HouseRowFits (unwrap_or found (record { id = 0; version = 0; clock = 0; rate = 0; zone = [] })) → option_map (λ (h : HouseRow). h.version) found ≡ Some 2
version_of_found None fits = absurd (let e : 0 ≡ 2 = fits.version in omega (arith, e))
version_of_found (Some h) fits = ap Some fits.version

version_that_fits : (db : Trees) → HouseRowFits (house_row_in db) → version_in db ≡ Some 2
unfolding house_row_in
version_that_fits db fits = version_of_found (find (λ (h : HouseRow). h.id == 1) (houses_in db)) fits

-- one that was opened
pub opened_version : (s : State) → (HasCleanDisk s → LeavesShown s) → (HasCleanDisk s → HouseRowFits (house_row_in s.now.trees)) → LeavesVersion s
opened_version s only row honest db may = subst (λ (t : Trees). version_in t ≡ Some 2) (sym (only honest db may)) (version_that_fits s.now.trees (row honest))

-- a call that commits nothing leaves it
pub version_stays : (old new : State) → Survives old new (λ _. ⊥) → LeavesVersion old → LeavesVersion new
version_stays old new survives leaves honest db may =
    let before : HasCleanDisk old = omega (arith, survives.clean, honest) in
    elim (survives.crash honest db may) [ inl left ↦ leaves before db left | inr none ↦ absurd none ]

-- and so does a change of a house at rest, made or not
pub version_or_made : (change : Change) (old new : State) → Survives old new (MadeBy change old) → (IsTrue old.is_open → old.may_leave old.committed.trees)
    → (HasCleanDisk old → IsAtRest old) → LeavesVersion old → LeavesVersion new
version_or_made change old new survives stays rests leaves honest db may =
    let before : HasCleanDisk old = omega (arith, survives.clean, honest) in
    let rest = rests before in
    let was : version_in old.now.trees ≡ Some 2 = subst (λ (d : Database). version_in d.trees ≡ Some 2) (sym rest.settled) (leaves before old.committed.trees (stays rest.is_open)) in
    elim (survives.crash honest db may) [
      | inl left ↦ leaves before db left
      | inr made ↦ subst (λ (t : Trees). version_in t ≡ Some 2) (sym made.2) (made.1.version ∙ was)
    ]
