use Rattle.std.proofs.Common.{◌≡◌, take}
use Rattle.house_rows.specs.History.{counted}
use Rattle.house_rows.specs.Ratings.{is_minus, is_plus, is_zero}
use Rattle.store_talk.proofs.rated.counts_of.Given as goal

abbrev pub invariant-loop-feedback : goal.invariant-loop-feedback
invariant-loop-feedback l =
    record {
      plus : l.plus ≡ counted (λ f. is_plus f.rating) (take l.feedback-index l.given);
      zero : l.zero ≡ counted (λ f. is_zero f.rating) (take l.feedback-index l.given);
      minus : l.minus ≡ counted (λ f. is_minus f.rating) (take l.feedback-index l.given);
    }
