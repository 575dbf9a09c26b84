use Rattle.std.proofs.Common.{refl}
use Rattle.steps.specs.Table.{step_at}
use Rattle.proxy.specs.Bids.{greatest, leader, price, second, top}
use Rattle.house_laws.proofs.worked.wrong_readings_differ.Goals as goal

pub returns-clause-ties_go_to_the_earlier : goal.returns-clause-ties_go_to_the_earlier
unfolding greatest leader price second top step_at
returns-clause-ties_go_to_the_earlier c = (refl, refl, refl)

pub returns-clause-raises_are_no_second_bidder : goal.returns-clause-raises_are_no_second_bidder
unfolding greatest leader price second top step_at
returns-clause-raises_are_no_second_bidder c = (refl, refl)

pub returns-clause-steps_are_taken_at_the_second : goal.returns-clause-steps_are_taken_at_the_second
unfolding greatest leader price second top step_at
returns-clause-steps_are_taken_at_the_second c = (refl, refl)

pub returns-clause-question_numbers_are_not_shared : goal.returns-clause-question_numbers_are_not_shared
unfolding greatest leader price second top step_at
returns-clause-question_numbers_are_not_shared c = (refl, refl)

pub returns-clause-watch_and_ask_leave_the_clock : goal.returns-clause-watch_and_ask_leave_the_clock
unfolding greatest leader price second top step_at
returns-clause-watch_and_ask_leave_the_clock c = (refl, refl, refl, refl)

pub returns-clause-close_takes_what_ends_now : goal.returns-clause-close_takes_what_ends_now
unfolding greatest leader price second top step_at
returns-clause-close_takes_what_ends_now c = (refl, refl)

pub returns-clause-fees_are_rounded_down : goal.returns-clause-fees_are_rounded_down
unfolding greatest leader price second top step_at
returns-clause-fees_are_rounded_down c = (refl, refl)
