-- The texts of the statements that make the tables.
use Rattle.std.specs.Prelude.{List, ℕ}
use Rattle.store_rows.specs.declared.tables.TheConstants.{BAND, BID, BID_BY_MEMBER, CATEGORY}
use Rattle.store_rows.specs.declared.tables.TheConstants.{EDITION, FEEDBACK, FEEDBACK_BY_RECEIVER}
use Rattle.store_rows.specs.declared.tables.TheConstants.{HOUSE, ITEM, ITEM_BY_CATEGORY}
use Rattle.store_rows.specs.declared.tables.TheConstants.{ITEM_BY_END, ITEM_BY_LEADER}
use Rattle.store_rows.specs.declared.tables.TheConstants.{ITEM_BY_SELLER, LATER_BAND, MEMBER}
use Rattle.store_rows.specs.declared.tables.TheConstants.{QUESTION, QUESTION_BY_ASKER, RESERVE}
use Rattle.store_rows.specs.declared.tables.TheConstants.{WATCH, WATCH_BY_ITEM}

abbrev pub make_house : List ℕ
make_house = HOUSE.now

abbrev pub make_band : List ℕ
make_band = BAND.now

abbrev pub make_member : List ℕ
make_member = MEMBER.now

abbrev pub make_category : List ℕ
make_category = CATEGORY.now

abbrev pub make_item : List ℕ
make_item = ITEM.now

abbrev pub make_bid : List ℕ
make_bid = BID.now

abbrev pub make_watch : List ℕ
make_watch = WATCH.now

abbrev pub make_question : List ℕ
make_question = QUESTION.now

abbrev pub make_feedback : List ℕ
make_feedback = FEEDBACK.now

abbrev pub make_item_by_category : List ℕ
make_item_by_category = ITEM_BY_CATEGORY.now

abbrev pub make_item_by_seller : List ℕ
make_item_by_seller = ITEM_BY_SELLER.now

abbrev pub make_item_by_leader : List ℕ
make_item_by_leader = ITEM_BY_LEADER.now

abbrev pub make_item_by_end : List ℕ
make_item_by_end = ITEM_BY_END.now

abbrev pub make_bid_by_member : List ℕ
make_bid_by_member = BID_BY_MEMBER.now

abbrev pub make_question_by_asker : List ℕ
make_question_by_asker = QUESTION_BY_ASKER.now

abbrev pub make_feedback_by_receiver : List ℕ
make_feedback_by_receiver = FEEDBACK_BY_RECEIVER.now

abbrev pub make_reserve : List ℕ
make_reserve = RESERVE.now

abbrev pub make_edition : List ℕ
make_edition = EDITION.now

abbrev pub make_later_band : List ℕ
make_later_band = LATER_BAND.now

abbrev pub make_watch_by_item : List ℕ
make_watch_by_item = WATCH_BY_ITEM.now
