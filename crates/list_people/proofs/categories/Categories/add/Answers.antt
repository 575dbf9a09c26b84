use Rattle.std.proofs.Common.{List, ◌≡◌, ◌∙◌, ◌+◌, length, Err, refl, ap, rules}
use Rattle.std.specs.Vec.{vec_len}
use Rattle.house_rows.specs.declared.people.Category.{Category}
use Rattle.list_people.specs.Named.{place_in}
use Rattle.list_people.proofs.Finding.{made_new, name_unknown, named_more, unmade_named}
use Rattle.list_people.proofs.categories.Categories.add.Goals as goal

pub returns-in_default : goal.returns-in_default
returns-in_default c = unmade_named (λ (k : Category). k.category) (λ (k : Category). k.name) _ c.args.self.now _ _ c.self.inside.names c.args.name.now _ c.self.invariant c.self.view_is c.fault.ensures refl

pub returns-in_err-push : goal.returns-in_err-push
returns-in_err-push c =
    let left : c.push.new.rows.items ≡ c.args.self.now = ◌∙◌ {A = List Category} c.in_err-push.ensures.rows_left c.self.view_is in
    let is : c.from_residual.result ≡ Err c.in_err-push.field-0.0 = search rules in
    rw is (unmade_named (λ (k : Category). k.category) (λ (k : Category). k.name) _ c.args.self.now _ _ c.self.inside.names c.args.name.now _ c.self.invariant c.self.view_is c.in_err-push.ensures.fault left)

pub invariant_of-self-2 : goal.invariant_of-self-2
invariant_of-self-2 c =
    let many : vec_len c.self.inside.rows ≡ length c.self.inside.rows.items = c.self.inside.rows.ok.0 in
    let name : c.in-Ok.text ≡ c.args.name.now = search rules in
    let free = name_unknown (λ (k : Category). k.category) (λ (k : Category). k.name) _ c.args.self.now _ c.args.name.now (place_in c.self.inside.names c.args.name.now) c.self.invariant refl c.in_ok-push.ensures.free c.self.view_is in
    named_more (λ (k : Category). k.category) (λ (k : Category). k.name) c.self.inside.rows.items c.args.self.now _ c.self.inside.names _ _ c.self.invariant c.self.view_is (ap (λ n. n + 1) (c.len.ensures ∙ many)) (rw name free) c.in_ok-push.ensures.row (rw name c.in_ok-push.ensures.place)

pub returns : goal.returns
returns c =
    let many : vec_len c.self.inside.rows ≡ length c.self.inside.rows.items = c.self.inside.rows.ok.0 in
    let name : c.in-Ok.text ≡ c.args.name.now = search rules in
    let free = name_unknown (λ (k : Category). k.category) (λ (k : Category). k.name) _ c.args.self.now _ c.args.name.now (place_in c.self.inside.names c.args.name.now) c.self.invariant refl c.in_ok-push.ensures.free c.self.view_is in
    let row : ◌≡◌ {A = Category} (record { category = c.len.result + 1; name = c.in-Ok.text }) (record { category = length c.args.self.now + 1; name = c.args.name.now }) = search rules in
    made_new c.args.self.now _ _ _ (c.in_ok-push.ensures.row ∙ rw (c.self.view_is, row) refl) free
