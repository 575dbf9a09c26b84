use Rattle.std.proofs.Common.{◌∙◌, inl, refl, sym}
use Rattle.site_audit.proofs.Callers.{others_reported, paired_same, unpaired}
use Rattle.site_audit.proofs.texts.may_pair.Goals as goal

pub returns-then-are_equal : goal.returns-then-are_equal
returns-then-are_equal c = λ x y a b. (
  λ yes. paired_same c.args.caller c.args.left.now c.args.right.now x y a b
      (c.are_equal.ensures.0 c.if-are_equal.true),
  λ p. refl,
)

pub returns-then-is_callers : goal.returns-then-is_callers
returns-then-is_callers c = λ x y a b. (
  λ no. absurd cc,
  λ p. absurd (unpaired c.args.caller c.args.left.now c.args.right.now x y a b
      (λ e. let same = c.are_equal.ensures.1 e in cc)
      (inl (sym (c.is_callers.ensures x.asked a.asks) ∙ c.if-is_callers.true)) p),
)

pub returns : goal.returns
returns c = λ x y a b.
    others_reported c.args.caller c.args.left.now c.args.right.now x y a b
    (λ e. let same = c.are_equal.ensures.1 e in cc)
    (sym (c.is_callers.ensures x.asked a.asks) ∙ c.if-is_callers.false) c.is_callers-2.result
    (c.is_callers-2.ensures y.asked b.asks)
