-- What the texts that make the tables mean.
use Rattle.std.proofs.Common.{◌≡◌, refl, Ok}
use Rattle.sqlite.specs.Compile.{table_defined_by}
use Rattle.sqlite.specs.Listing.{understood}
use Rattle.sqlite_resolve.specs.Compile.{index_defined_by}
use Rattle.sqlite_tied.specs.Compute.{everything}
use Rattle.store_rows.specs.Schema.{house_table, band_table, member_table, category_table, item_table, bid_table, watch_table, question_table, feedback_table, reserve_table, edition_table, later_band_table, item_by_category, item_by_seller, item_by_leader, item_by_end, bid_by_member, question_by_asker, feedback_by_receiver, watch_by_item}
use Rattle.store_rows.specs.Texts.{make_house, make_band, make_member, make_category, make_item, make_bid, make_watch, make_question, make_feedback, make_item_by_category, make_item_by_seller, make_item_by_leader, make_item_by_end, make_bid_by_member, make_question_by_asker, make_feedback_by_receiver, make_reserve, make_edition, make_later_band, make_watch_by_item}

pub house_defined : table_defined_by make_house ≡ Ok (record house_table { tree = 0 })
unfolding understood everything
house_defined = refl

pub band_defined : table_defined_by make_band ≡ Ok (record band_table { tree = 0 })
unfolding understood everything
band_defined = refl

pub member_defined : table_defined_by make_member ≡ Ok (record member_table { tree = 0 })
unfolding understood everything
member_defined = refl

pub category_defined : table_defined_by make_category ≡ Ok (record category_table { tree = 0 })
unfolding understood everything
category_defined = refl

pub item_defined : table_defined_by make_item ≡ Ok (record item_table { tree = 0 })
unfolding understood everything
item_defined = refl

pub bid_defined : table_defined_by make_bid ≡ Ok (record bid_table { tree = 0 })
unfolding understood everything
bid_defined = refl

pub watch_defined : table_defined_by make_watch ≡ Ok (record watch_table { tree = 0 })
unfolding understood everything
watch_defined = refl

pub question_defined : table_defined_by make_question ≡ Ok (record question_table { tree = 0 })
unfolding understood everything
question_defined = refl

pub feedback_defined : table_defined_by make_feedback ≡ Ok (record feedback_table { tree = 0 })
unfolding understood everything
feedback_defined = refl

pub item_by_category_defined : index_defined_by item_table make_item_by_category ≡ Ok (record item_by_category { tree = 0 })
unfolding understood everything
item_by_category_defined = refl

pub item_by_seller_defined : index_defined_by item_table make_item_by_seller ≡ Ok (record item_by_seller { tree = 0 })
unfolding understood everything
item_by_seller_defined = refl

pub item_by_leader_defined : index_defined_by item_table make_item_by_leader ≡ Ok (record item_by_leader { tree = 0 })
unfolding understood everything
item_by_leader_defined = refl

pub item_by_end_defined : index_defined_by item_table make_item_by_end ≡ Ok (record item_by_end { tree = 0 })
unfolding understood everything
item_by_end_defined = refl

pub bid_by_member_defined : index_defined_by bid_table make_bid_by_member ≡ Ok (record bid_by_member { tree = 0 })
unfolding understood everything
bid_by_member_defined = refl

pub question_by_asker_defined : index_defined_by question_table make_question_by_asker ≡ Ok (record question_by_asker { tree = 0 })
unfolding understood everything
question_by_asker_defined = refl

pub feedback_by_receiver_defined : index_defined_by feedback_table make_feedback_by_receiver ≡ Ok (record feedback_by_receiver { tree = 0 })
unfolding understood everything
feedback_by_receiver_defined = refl

pub reserve_defined : table_defined_by make_reserve ≡ Ok (record reserve_table { tree = 0 })
unfolding understood everything
reserve_defined = refl

pub edition_defined : table_defined_by make_edition ≡ Ok (record edition_table { tree = 0 })
unfolding understood everything
edition_defined = refl

pub later_band_defined : table_defined_by make_later_band ≡ Ok (record later_band_table { tree = 0 })
unfolding understood everything
later_band_defined = refl

pub watch_by_item_defined : index_defined_by watch_table make_watch_by_item ≡ Ok (record watch_by_item { tree = 0 })
unfolding understood everything
watch_by_item_defined = refl
