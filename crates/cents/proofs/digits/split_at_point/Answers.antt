use Rattle.std.proofs.Common.{◌∷◌, []}
use Rattle.std.proofs.lemmas.Bool.Decides.{Decides-eqb}
use Rattle.std.proofs.lemmas.Slice.Eq.{strip_suffix_is}
use Rattle.cents.proofs.SpellingLemmas.{point_found, point_missing}
use Rattle.cents.proofs.digits.split_at_point.Goals as goal

pub returns-clause-some : goal.returns-clause-some
returns-clause-some c =
    let cut = c.in_ok-front.ensures.cases in
    let point = rw c.in_ok-strip_suffix.was at (strip_suffix_is Decides-eqb c.in_ok-front.front.now (46 ∷ []) c.strip_suffix.result c.strip_suffix.ensures.cases) in
    point_found c.args.text.now c.in_ok-front.front.now c.in_ok-front.cents.now c.in_ok-strip_suffix.field-0.now cut.0 cut.1 cut.2 point

pub returns-in_err-strip_suffix-clause-none : goal.returns-in_err-strip_suffix-clause-none
returns-in_err-strip_suffix-clause-none c none =
    let cut = c.in_ok-front.ensures.cases in
    let no_point = rw c.in_err-strip_suffix.was at (strip_suffix_is Decides-eqb c.in_ok-front.front.now (46 ∷ []) c.strip_suffix.result c.strip_suffix.ensures.cases) in
    point_missing c.args.text.now c.in_ok-front.front.now c.in_ok-front.cents.now cut.0 cut.1 cut.2 no_point
