use Rattle.std.proofs.Common.{refl}
use Rattle.steps.specs.Table.{step_at}
use Rattle.proxy.specs.Bids.{greatest, leader, price, second, top}
use Rattle.house_rows.specs.Items.{items, items_shown}
use Rattle.house_rows.specs.Pages.{own_bids, page_of}
use Rattle.house_rows.specs.Questions.{published, questions, waiting}
use Rattle.house_rows.specs.Verdict.{verdict}
use Rattle.house_rows.specs.Views.{own_maxima, own_questions, own_watches}
use Rattle.house_laws.proofs.worked.worked_rows.Goals as goal

pub returns-clause-item_is_shown : goal.returns-clause-item_is_shown
unfolding verdict items items_shown greatest leader price second top step_at questions published waiting own_questions own_watches own_maxima own_bids page_of
returns-clause-item_is_shown c = refl

pub returns-clause-first_bid_takes_the_start : goal.returns-clause-first_bid_takes_the_start
unfolding verdict items items_shown greatest leader price second top step_at questions published waiting own_questions own_watches own_maxima own_bids page_of
returns-clause-first_bid_takes_the_start c = (refl, refl)

pub returns-clause-low_bid_is_refused : goal.returns-clause-low_bid_is_refused
unfolding verdict items items_shown greatest leader price second top step_at questions published waiting own_questions own_watches own_maxima own_bids page_of
returns-clause-low_bid_is_refused c = refl

pub returns-clause-higher_bid_pays_one_step_over : goal.returns-clause-higher_bid_pays_one_step_over
unfolding verdict items items_shown greatest leader price second top step_at questions published waiting own_questions own_watches own_maxima own_bids page_of
returns-clause-higher_bid_pays_one_step_over c = (refl, refl)

pub returns-clause-equal_maximum_keeps_the_earlier_leader : goal.returns-clause-equal_maximum_keeps_the_earlier_leader
unfolding verdict items items_shown greatest leader price second top step_at questions published waiting own_questions own_watches own_maxima own_bids page_of
returns-clause-equal_maximum_keeps_the_earlier_leader c = (refl, refl)

pub returns-clause-equal_maximum_at_one_moment_keeps_the_earlier_leader : goal.returns-clause-equal_maximum_at_one_moment_keeps_the_earlier_leader
unfolding verdict items items_shown greatest leader price second top step_at questions published waiting own_questions own_watches own_maxima own_bids page_of
returns-clause-equal_maximum_at_one_moment_keeps_the_earlier_leader c = (refl, refl)

pub returns-clause-raise_is_no_second_bidder : goal.returns-clause-raise_is_no_second_bidder
unfolding verdict items items_shown greatest leader price second top step_at questions published waiting own_questions own_watches own_maxima own_bids page_of
returns-clause-raise_is_no_second_bidder c = (refl, refl)

pub returns-clause-great_raise_pays_one_step_over : goal.returns-clause-great_raise_pays_one_step_over
unfolding verdict items items_shown greatest leader price second top step_at questions published waiting own_questions own_watches own_maxima own_bids page_of
returns-clause-great_raise_pays_one_step_over c = (refl, refl)

pub returns-clause-same_maximum_is_refused : goal.returns-clause-same_maximum_is_refused
unfolding verdict items items_shown greatest leader price second top step_at questions published waiting own_questions own_watches own_maxima own_bids page_of
returns-clause-same_maximum_is_refused c = refl

pub returns-clause-greatest_amount_is_taken : goal.returns-clause-greatest_amount_is_taken
unfolding verdict items items_shown greatest leader price second top step_at questions published waiting own_questions own_watches own_maxima own_bids page_of
returns-clause-greatest_amount_is_taken c = ((refl, refl), (refl, refl), refl)

pub returns-clause-own_bids_are_shown : goal.returns-clause-own_bids_are_shown
unfolding verdict items items_shown greatest leader price second top step_at questions published waiting own_questions own_watches own_maxima own_bids page_of
returns-clause-own_bids_are_shown c = refl

pub returns-clause-bid_at_the_end_is_too_late : goal.returns-clause-bid_at_the_end_is_too_late
unfolding verdict items items_shown greatest leader price second top step_at questions published waiting own_questions own_watches own_maxima own_bids page_of
returns-clause-bid_at_the_end_is_too_late c = (refl, refl)

pub returns-clause-close_takes_what_ends_now : goal.returns-clause-close_takes_what_ends_now
unfolding verdict items items_shown greatest leader price second top step_at questions published waiting own_questions own_watches own_maxima own_bids page_of
returns-clause-close_takes_what_ends_now c = ((refl, refl), (refl, refl), (refl, refl), refl)

pub returns-clause-earlier_moment_is_refused : goal.returns-clause-earlier_moment_is_refused
unfolding verdict items items_shown greatest leader price second top step_at questions published waiting own_questions own_watches own_maxima own_bids page_of
returns-clause-earlier_moment_is_refused c = (refl, refl)

pub returns-clause-buy_now_stands_until_the_first_bid : goal.returns-clause-buy_now_stands_until_the_first_bid
unfolding verdict items items_shown greatest leader price second top step_at questions published waiting own_questions own_watches own_maxima own_bids page_of
returns-clause-buy_now_stands_until_the_first_bid c = ((refl, refl), refl, refl, refl)

pub returns-clause-questions_are_numbered_by_asker : goal.returns-clause-questions_are_numbered_by_asker
unfolding verdict items items_shown greatest leader price second top step_at questions published waiting own_questions own_watches own_maxima own_bids page_of
returns-clause-questions_are_numbered_by_asker c = ((refl, refl), (refl, refl), (refl, refl))

pub returns-clause-only_answered_questions_are_published : goal.returns-clause-only_answered_questions_are_published
unfolding verdict items items_shown greatest leader price second top step_at questions published waiting own_questions own_watches own_maxima own_bids page_of
returns-clause-only_answered_questions_are_published c = ((refl, refl), refl, refl, refl)

pub returns-clause-answers_are_the_sellers_and_once : goal.returns-clause-answers_are_the_sellers_and_once
unfolding verdict items items_shown greatest leader price second top step_at questions published waiting own_questions own_watches own_maxima own_bids page_of
returns-clause-answers_are_the_sellers_and_once c = (refl, refl, refl)

pub returns-clause-watch_leaves_the_clock : goal.returns-clause-watch_leaves_the_clock
unfolding verdict items items_shown greatest leader price second top step_at questions published waiting own_questions own_watches own_maxima own_bids page_of
returns-clause-watch_leaves_the_clock c = (refl, refl)

pub returns-clause-ask_leaves_the_clock : goal.returns-clause-ask_leaves_the_clock
unfolding verdict items items_shown greatest leader price second top step_at questions published waiting own_questions own_watches own_maxima own_bids page_of
returns-clause-ask_leaves_the_clock c = (refl, refl)

pub returns-clause-fee_is_rounded_down : goal.returns-clause-fee_is_rounded_down
unfolding verdict items items_shown greatest leader price second top step_at questions published waiting own_questions own_watches own_maxima own_bids page_of
returns-clause-fee_is_rounded_down c = ((refl, refl), (refl, refl), refl)

pub returns-clause-parties_rate_each_other_once : goal.returns-clause-parties_rate_each_other_once
unfolding verdict items items_shown greatest leader price second top step_at questions published waiting own_questions own_watches own_maxima own_bids page_of
returns-clause-parties_rate_each_other_once c = ((refl, refl), refl, refl, (refl, refl), refl)

pub returns-clause-sellers_keep_off_their_items : goal.returns-clause-sellers_keep_off_their_items
unfolding verdict items items_shown greatest leader price second top step_at questions published waiting own_questions own_watches own_maxima own_bids page_of
returns-clause-sellers_keep_off_their_items c = (refl, refl, refl)

pub returns-clause-names_and_lots_are_taken_once : goal.returns-clause-names_and_lots_are_taken_once
unfolding verdict items items_shown greatest leader price second top step_at questions published waiting own_questions own_watches own_maxima own_bids page_of
returns-clause-names_and_lots_are_taken_once c = (refl, refl, refl, refl)

pub returns-clause-callers_are_known : goal.returns-clause-callers_are_known
unfolding verdict items items_shown greatest leader price second top step_at questions published waiting own_questions own_watches own_maxima own_bids page_of
returns-clause-callers_are_known c = (refl, refl, refl, refl)

pub returns-clause-bid_under_the_sealed_top_is_accepted : goal.returns-clause-bid_under_the_sealed_top_is_accepted
unfolding verdict items items_shown greatest leader price second top step_at questions published waiting own_questions own_watches own_maxima own_bids page_of
returns-clause-bid_under_the_sealed_top_is_accepted c = (refl, refl)
