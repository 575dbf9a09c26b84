use Rattle.std.proofs.Common.{List, refl}
use Rattle.house_rows.specs.declared.change.Change.TheVariants as change
use Rattle.house_rows.specs.declared.talk.Question.{Question}
use Rattle.house_rows.specs.Changed.{changed}
use Rattle.store_list.specs.contracts.keep.ListKeep.{the_view}
use Rattle.store_list.proofs.Changing.{kept_in, makes_in}
use Rattle.store_list.proofs.keep.ListKeep.ask.Goals as goal

pub invariant_of-self : goal.invariant_of-self
unfolding changed
invariant_of-self c = kept_in (λ (rows : List Question). record (the_view c.self.inside) { questions = rows }) c.ask.result _ _ _ c.args.self.now (change.Ask c.args.item c.args.asker c.args.number c.args.text) c.self.view_is c.self.invariant c.requires.fits refl c.ask.ensures

pub returns : goal.returns
unfolding changed
returns c = makes_in (λ (rows : List Question). record (the_view c.self.inside) { questions = rows }) c.ask.result _ _ _ c.args.self.now (change.Ask c.args.item c.args.asker c.args.number c.args.text) c.self.view_is refl c.ask.ensures
