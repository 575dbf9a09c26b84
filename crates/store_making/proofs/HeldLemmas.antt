-- A house that was made is one in a house's own order, under other numbers.
use Rattle.std.proofs.Common.{◌≡◌, ◌<◌, ◌&&◌, ◌∙◌, ℕ, zero, suc, Bool, true, List, [], ◌∷◌, false, eqb, map, nat_lt, refl, sym, ap, ap₂, subst, subst₂, arith, inl, inr}
use Rattle.std.specs.Fmt.{digits}
use Rattle.std.specs.List.{list_all}
use Rattle.std.proofs.lemmas.Bool.{and_parts, cases_eq}
use Rattle.std.proofs.lemmas.Bool.Decides.{nat_tests}
use mathlib.Core.Path.{fun_ext}
use Rattle.sqlite_value.specs.Order.{Row}
use Rattle.sqlite_trees.specs.Objects.{catalog_tree}
use Rattle.sqlite_trees.specs.Sound.{are_in_order, head_at}
use Rattle.sqlite_trees.specs.Tree.{IsAscending, Trees}
use Rattle.sqlite_trees.specs.View.{IsShaped}
use Rattle.sqlite_trees.specs.declared.store.Shape.TheVariants as shape
use Rattle.sqlite_catalog.proofs.ReadLemmas.{lists_once}
use Rattle.sqlite_catalog.specs.Listing.{AreListed, IsSound, Lists, automatic}
use Rattle.sqlite_rules.proofs.ListLemmas.{all_from, test_has}
use Rattle.sqlite_schema.specs.Names.{same_name}
use Rattle.sqlite_schema.specs.declared.schema.Index.{Index}
use Rattle.sqlite_schema.specs.declared.schema.Schema.{Schema}
use Rattle.sqlite_schema.specs.declared.schema.Table.{Table}
use Rattle.sqlite.specs.Effect.{Database}
use Rattle.house_rows.specs.Text.{is_plain}
use Rattle.house_rows.specs.declared.settings.Settings.{Settings}
use Rattle.order_laws.proofs.TransferLemmas.{own_schema, own_sound}
use Rattle.tree_order.specs.Laws.{never_catalog, trees_at}
use Rattle.tree_order.specs.NumberLaws.{number_back, other_way}
use Rattle.tree_order.specs.Numbers.{AreInverse, number}
use Rattle.tree_order.specs.Renumbered.{renumbered_trees}
use Rattle.tree_order.specs.RowLaws.{renumbered_table, rows_back}
use Rattle.store_rows.specs.House.{IsHouse}
use Rattle.store_rows.specs.Schema.{house_table, band_table, member_table, category_table, item_table, bid_table, watch_table, question_table, feedback_table}
use Rattle.store_rows.specs.Schema.{house_schema}
use Rattle.store_rows.specs.Schema.{item_by_category, item_by_seller, item_by_leader, item_by_end, bid_by_member, question_by_asker, feedback_by_receiver, watch_by_item}
use Rattle.store_house.specs.Named.{HoldsHouse, HoldsSound, IsArranged, IsReordered, house_names}
use Rattle.store_house.specs.Places.{trees_named}
use Rattle.store_making.specs.Made.{IsMadeHouse, edition_made, later_band_made, made_schema, reserve_made}
use Rattle.store_making.proofs.ListedLemmas.{index_found, table_found}
use Rattle.store_making.proofs.MadeHouses.{shown_sound}
use Rattle.store_making.proofs.Relisted.{IsMoved, list_in_order, lists_moved}

-- where each tree of a house lies in one that was made, and back
abbrev made_places : List ℕ
made_places = 0 ∷ 1 ∷ 2 ∷ 3 ∷ 4 ∷ 5 ∷ 6 ∷ 7 ∷ 8 ∷ 9 ∷ 10 ∷ 11 ∷ 12 ∷ 13 ∷ 14 ∷ 15 ∷ 20 ∷ 21 ∷ 22 ∷ 23 ∷ 24 ∷ 25 ∷ 26 ∷ 16 ∷ 17 ∷ 18 ∷ 19 ∷ 27 ∷ []

abbrev house_places : List ℕ
house_places = 0 ∷ 1 ∷ 2 ∷ 3 ∷ 4 ∷ 5 ∷ 6 ∷ 7 ∷ 8 ∷ 9 ∷ 10 ∷ 11 ∷ 12 ∷ 13 ∷ 14 ∷ 15 ∷ 23 ∷ 24 ∷ 25 ∷ 26 ∷ 16 ∷ 17 ∷ 18 ∷ 19 ∷ 20 ∷ 21 ∷ 22 ∷ 27 ∷ []

-- ---- what is so of each number below another

abbrev below_all : (ℕ → Bool) → ℕ → Bool
below_all p zero = true
below_all p (suc n) = p n && below_all p n

at_each : (p : ℕ → Bool) (n t : ℕ) → below_all p n ≡ true → t < n → p t ≡ true
at_each p zero t all low = absurd (omega (arith, low))
at_each p (suc n) t all low =
    let both = and_parts _ _ all in
    elim (cases_eq t n) [
      | inl same ↦ ap p same ∙ both.0
      | inr other ↦ at_each p n t both.1 (omega (arith, low, other))
    ]

below_from : (a b : ℕ) → nat_lt a b ≡ true → a < b
below_from a b h = grind (arith, nat_tests)

same_from : (a b : ℕ) → eqb a b ≡ true → a ≡ b
same_from a b h = grind (arith, nat_tests)

places_inverse : AreInverse made_places house_places
places_inverse = record {
  few = omega arith;
  same = refl;
  low = λ t low. below_from (number made_places t) 28 (at_each (λ t. nat_lt (number made_places t) 28) 28 t refl low);
  back = λ t low. same_from (number house_places (number made_places t)) t (at_each (λ t. eqb (number house_places (number made_places t)) t) 28 t refl low);
  high = λ t low. below_from (number house_places t) 28 (at_each (λ t. nat_lt (number house_places t) 28) 28 t refl low);
  forth = λ t low. same_from (number made_places (number house_places t)) t (at_each (λ t. eqb (number made_places (number house_places t)) t) 28 t refl low);
}

-- ---- lists that rise

abbrev rises : {X : Type 0} → (X → ℕ) → List X → Bool
rises tree [] = true
rises tree (x ∷ xs) = list_all (λ y. nat_lt (tree x) (tree y)) xs && rises tree xs

risen : {X : Type 0} (tree : X → ℕ) (xs : List X) → rises tree xs ≡ true → IsAscending (λ s t. tree s < tree t) xs
risen tree [] h = tt
risen tree (x ∷ xs) h =
    let both = and_parts _ _ h in
    (all_from (λ y. tree x < tree y) xs (λ y has. below_from (tree x) (tree y) (test_has (λ y. nat_lt (tree x) (tree y)) xs y both.0 has)), risen tree xs both.1)

-- ---- the schema of a house is the one in which it is made, under these numbers

places_moved : IsAscending (λ (s t : Table). same_name s.name t.name ≡ false) house_schema.tables → IsMoved house_places made_schema house_schema
places_moved named = record {
  tables_to = (
    inl refl,
    (
      inr (inl refl),
      (
        inr (inr (inl refl)),
        (
          inr (inr (inr (inl refl))),
          (
            inr (inr (inr (inr (inl refl)))),
            (
              inr (inr (inr (inr (inr (inl refl))))),
              (
                inr (inr (inr (inr (inr (inr (inl refl)))))),
                (
                  inr (inr (inr (inr (inr (inr (inr (inl refl))))))),
                  (
                    inr (inr (inr (inr (inr (inr (inr (inr (inl refl)))))))),
                    (
                      inr (inr (inr (inr (inr (inr (inr (inr (inr (inl refl))))))))),
                      (
                        inr (inr (inr (inr (inr (inr (inr (inr (inr (inr (inl refl)))))))))),
                        (
                          inr (inr (inr (inr (inr (inr (inr (inr (inr (inr (inr (inl refl))))))))))),
                          tt,
                        ),
                      ),
                    ),
                  ),
                ),
              ),
            ),
          ),
        ),
      ),
    ),
  );
  tables_from = (
    (house_table, inl refl, refl),
    (
      (band_table, inr (inl refl), refl),
      (
        (member_table, inr (inr (inl refl)), refl),
        (
          (category_table, inr (inr (inr (inl refl))), refl),
          (
            (item_table, inr (inr (inr (inr (inl refl)))), refl),
            (
              (bid_table, inr (inr (inr (inr (inr (inl refl))))), refl),
              (
                (watch_table, inr (inr (inr (inr (inr (inr (inl refl)))))), refl),
                (
                  (question_table, inr (inr (inr (inr (inr (inr (inr (inl refl))))))), refl),
                  (
                    (feedback_table, inr (inr (inr (inr (inr (inr (inr (inr (inl refl)))))))), refl),
                    (
                      (reserve_made, inr (inr (inr (inr (inr (inr (inr (inr (inr (inl refl))))))))), refl),
                      (
                        (edition_made, inr (inr (inr (inr (inr (inr (inr (inr (inr (inr (inl refl)))))))))), refl),
                        (
                          (later_band_made, inr (inr (inr (inr (inr (inr (inr (inr (inr (inr (inr (inl refl))))))))))), refl),
                          tt,
                        ),
                      ),
                    ),
                  ),
                ),
              ),
            ),
          ),
        ),
      ),
    ),
  );
  tables_rise = risen (λ (t : Table). t.tree) house_schema.tables refl;
  indexes_to = (
    inl refl,
    (
      inr (inl refl),
      (
        inr (inr (inl refl)),
        (
          inr (inr (inr (inl refl))),
          (
            inr (inr (inr (inr (inl refl)))),
            (
              inr (inr (inr (inr (inr (inl refl))))),
              (
                inr (inr (inr (inr (inr (inr (inl refl)))))),
                (
                  inr (inr (inr (inr (inr (inr (inr (inr (inr (inr (inr (inr (inr (inr (inl refl)))))))))))))),
                  (
                    inr (inr (inr (inr (inr (inr (inr (inl refl))))))),
                    (
                      inr (inr (inr (inr (inr (inr (inr (inr (inl refl)))))))),
                      (
                        inr (inr (inr (inr (inr (inr (inr (inr (inr (inl refl))))))))),
                        (
                          inr (inr (inr (inr (inr (inr (inr (inr (inr (inr (inl refl)))))))))),
                          (
                            inr (inr (inr (inr (inr (inr (inr (inr (inr (inr (inr (inl refl))))))))))),
                            (
                              inr (inr (inr (inr (inr (inr (inr (inr (inr (inr (inr (inr (inl refl)))))))))))),
                              (
                                inr (inr (inr (inr (inr (inr (inr (inr (inr (inr (inr (inr (inr (inl refl))))))))))))),
                                (
                                  inr (inr (inr (inr (inr (inr (inr (inr (inr (inr (inr (inr (inr (inr (inr (inl refl))))))))))))))),
                                  tt,
                                ),
                              ),
                            ),
                          ),
                        ),
                      ),
                    ),
                  ),
                ),
              ),
            ),
          ),
        ),
      ),
    ),
  );
  indexes_from = (
    (automatic member_table 0 (2 ∷ []) 3, inl refl, refl),
    (
      (automatic category_table 0 (2 ∷ []) 5, inr (inl refl), refl),
      (
        (automatic item_table 0 (2 ∷ 4 ∷ []) 7, inr (inr (inl refl)), refl),
        (
          (automatic bid_table 0 (1 ∷ 2 ∷ []) 9, inr (inr (inr (inl refl))), refl),
          (
            (automatic watch_table 0 (1 ∷ 2 ∷ []) 11, inr (inr (inr (inr (inl refl)))), refl),
            (
              (automatic question_table 0 (1 ∷ 2 ∷ 3 ∷ []) 13, inr (inr (inr (inr (inr (inl refl))))), refl),
              (
                (automatic feedback_table 0 (1 ∷ 2 ∷ []) 15, inr (inr (inr (inr (inr (inr (inl refl)))))), refl),
                (
                  (record item_by_category { tree = 20 }, inr (inr (inr (inr (inr (inr (inr (inr (inl refl)))))))), refl),
                  (
                    (record item_by_seller { tree = 21 }, inr (inr (inr (inr (inr (inr (inr (inr (inr (inl refl))))))))), refl),
                    (
                      (record item_by_leader { tree = 22 }, inr (inr (inr (inr (inr (inr (inr (inr (inr (inr (inl refl)))))))))), refl),
                      (
                        (record item_by_end { tree = 23 }, inr (inr (inr (inr (inr (inr (inr (inr (inr (inr (inr (inl refl))))))))))), refl),
                        (
                          (record bid_by_member { tree = 24 }, inr (inr (inr (inr (inr (inr (inr (inr (inr (inr (inr (inr (inl refl)))))))))))), refl),
                          (
                            (record question_by_asker { tree = 25 }, inr (inr (inr (inr (inr (inr (inr (inr (inr (inr (inr (inr (inr (inl refl))))))))))))), refl),
                            (
                              (record feedback_by_receiver { tree = 26 }, inr (inr (inr (inr (inr (inr (inr (inr (inr (inr (inr (inr (inr (inr (inl refl)))))))))))))), refl),
                              (
                                (automatic later_band_made 0 (1 ∷ 2 ∷ []) 19, inr (inr (inr (inr (inr (inr (inr (inl refl))))))), refl),
                                (
                                  (watch_by_item, inr (inr (inr (inr (inr (inr (inr (inr (inr (inr (inr (inr (inr (inr (inr (inl refl))))))))))))))), refl),
                                  tt,
                                ),
                              ),
                            ),
                          ),
                        ),
                      ),
                    ),
                  ),
                ),
              ),
            ),
          ),
        ),
      ),
    ),
  );
  indexes_rise = risen (λ (i : Index). i.tree) house_schema.indexes refl;
  after = all_from (λ (i : Index). number house_places i.table < number house_places i.tree) made_schema.indexes
      (λ i has. below_from (number house_places i.table) (number house_places i.tree) (test_has (λ (i : Index). nat_lt (number house_places i.table) (number house_places i.tree)) made_schema.indexes i refl has));
  views = refl;
  none = refl;
  named = named;
}

-- trees back in the first order are what they were
trees_back : (inner outer : List ℕ) → AreInverse inner outer → (below : Trees) → renumbered_trees outer inner (renumbered_trees inner outer below) ≡ below
trees_back inner outer h below = fun_ext (λ tree. elim (cases_eq tree catalog_tree) [
  | inl same ↦
      ap (renumbered_trees outer inner (renumbered_trees inner outer below)) same
      ∙ rows_back inner outer h (below catalog_tree)
      ∙ ap below (sym same)
  | inr other ↦
      trees_at outer inner (renumbered_trees inner outer below) tree other
      ∙ trees_at inner outer below (number outer tree) (never_catalog outer inner (other_way inner outer h) tree other)
      ∙ ap below (number_back outer inner (other_way inner outer h) tree)
])

-- ---- the names

next : {x y : ℕ} {xs ys : List ℕ} → y ≡ x → xs ≡ ys → x ∷ xs ≡ y ∷ ys
next e more = ap₂ (λ z zs. z ∷ zs) (sym e) more

names_find : (rows : List Row) → AreListed rows made_schema → made_places ≡ trees_named house_names 0 rows
unfolding house_names digits
names_find rows are =
    let table = table_found rows made_schema are in
    let index = index_found rows made_schema are in
    next (table house_table (inl refl) 0)
    (next (table band_table (inr (inl refl)) 1)
    (next (table member_table (inr (inr (inl refl))) 2)
    (next (index (automatic member_table 0 (2 ∷ []) 3) (inl refl) 3)
    (next (table category_table (inr (inr (inr (inl refl)))) 4)
    (next (index (automatic category_table 0 (2 ∷ []) 5) (inr (inl refl)) 5)
    (next (table item_table (inr (inr (inr (inr (inl refl))))) 6)
    (next (index (automatic item_table 0 (2 ∷ 4 ∷ []) 7) (inr (inr (inl refl))) 7)
    (next (table bid_table (inr (inr (inr (inr (inr (inl refl)))))) 8)
    (next (index (automatic bid_table 0 (1 ∷ 2 ∷ []) 9) (inr (inr (inr (inl refl)))) 9)
    (next (table watch_table (inr (inr (inr (inr (inr (inr (inl refl))))))) 10)
    (next (index (automatic watch_table 0 (1 ∷ 2 ∷ []) 11) (inr (inr (inr (inr (inl refl))))) 11)
    (next (table question_table (inr (inr (inr (inr (inr (inr (inr (inl refl)))))))) 12)
    (next (index (automatic question_table 0 (1 ∷ 2 ∷ 3 ∷ []) 13) (inr (inr (inr (inr (inr (inl refl)))))) 13)
    (next (table feedback_table (inr (inr (inr (inr (inr (inr (inr (inr (inl refl))))))))) 14)
    (next (index (automatic feedback_table 0 (1 ∷ 2 ∷ []) 15) (inr (inr (inr (inr (inr (inr (inl refl))))))) 15)
    (next (index (record item_by_category { tree = 20 }) (inr (inr (inr (inr (inr (inr (inr (inr (inl refl))))))))) 16)
    (next (index (record item_by_seller { tree = 21 }) (inr (inr (inr (inr (inr (inr (inr (inr (inr (inl refl)))))))))) 17)
    (next (index (record item_by_leader { tree = 22 }) (inr (inr (inr (inr (inr (inr (inr (inr (inr (inr (inl refl))))))))))) 18)
    (next (index (record item_by_end { tree = 23 }) (inr (inr (inr (inr (inr (inr (inr (inr (inr (inr (inr (inl refl)))))))))))) 19)
    (next (index (record bid_by_member { tree = 24 }) (inr (inr (inr (inr (inr (inr (inr (inr (inr (inr (inr (inr (inl refl))))))))))))) 20)
    (next (index (record question_by_asker { tree = 25 }) (inr (inr (inr (inr (inr (inr (inr (inr (inr (inr (inr (inr (inr (inl refl)))))))))))))) 21)
    (next (index (record feedback_by_receiver { tree = 26 }) (inr (inr (inr (inr (inr (inr (inr (inr (inr (inr (inr (inr (inr (inr (inl refl))))))))))))))) 22)
    (next (table reserve_made (inr (inr (inr (inr (inr (inr (inr (inr (inr (inl refl)))))))))) 23)
    (next (table edition_made (inr (inr (inr (inr (inr (inr (inr (inr (inr (inr (inl refl))))))))))) 24)
    (next (table later_band_made (inr (inr (inr (inr (inr (inr (inr (inr (inr (inr (inr (inl refl)))))))))))) 25)
    (next (index (automatic later_band_made 0 (1 ∷ 2 ∷ []) 19) (inr (inr (inr (inr (inr (inr (inr (inl refl)))))))) 26)
    (next (index watch_by_item (inr (inr (inr (inr (inr (inr (inr (inr (inr (inr (inr (inr (inr (inr (inr (inl refl)))))))))))))))) 27)
    refl)))))))))))))))))))))))))))

-- ---- a house that was made

module _ (settings : Settings) (made : Database) (house : IsMadeHouse settings made) (table : IsShaped shape.Table (made.trees catalog_tree)) where
  abbrev rows : List Row
  rows = made.trees catalog_tree

  abbrev trees : Trees
  trees = renumbered_trees made_places house_places made.trees

  lists : Lists rows made_schema
  lists = subst (Lists rows) house.laid.schema house.laid.sound.lists

  moved : IsMoved house_places made_schema house_schema
  moved = places_moved lists.listed.named

  back : AreInverse house_places made_places
  back = other_way made_places house_places places_inverse

  found : IsSound made_schema (renumbered_trees house_places made_places trees)
  found = subst₂ IsSound house.laid.schema (sym (trees_back made_places house_places places_inverse made.trees)) house.laid.sound

  in_order : are_in_order [] (map (head_at 1) (trees catalog_tree)) ≡ true
  in_order = list_in_order made_places house_places places_inverse made_schema house_schema moved rows table lists

  shaped : IsShaped shape.Table (trees catalog_tree)
  shaped = renumbered_table house_places rows table

  own : Schema
  own = own_schema house_places made_places back made_schema trees shaped in_order refl found

  sound_own : IsSound own trees
  unfolding own
  sound_own = own_sound house_places made_places back made_schema trees shaped in_order refl found

  sound_house : IsSound house_schema trees
  sound_house =
      subst (λ s. IsSound s trees) (lists_once (trees catalog_tree) own house_schema sound_own.lists
      (lists_moved made_places house_places places_inverse made_schema house_schema moved rows table lists)) sound_own

  abbrev pub in_house_order : Database
  in_house_order = record { schema = house_schema; trees = trees }

  pub is_house : IsHouse in_house_order
  is_house = record { is_indexed = true; schema = refl; shaped = house.laid.shaped; sound = sound_house }

  abbrev order : IsReordered made.trees trees
  order = record { inner = made_places; outer = house_places; inverse = places_inverse; shown = refl }

  arranged : IsArranged made.trees trees
  arranged = record { order = order; named = names_find rows lists.listed }

  pub holds_house : HoldsHouse made.trees
  holds_house = (in_house_order, is_house, arranged)

  pub holds_sound : is_plain settings.zone ≡ true → HoldsSound made.trees
  holds_sound plain = (in_house_order, shown_sound settings made in_house_order house table order is_house plain, arranged)
