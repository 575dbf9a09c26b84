-- What a call does to a view, it does under other numbers too.
use Rattle.std.proofs.Common.{◌≡◌, ◌≢◌, ℕ, ◌-◌, ◌^◌, ◌<◌, ◌≤◌, Bool, true, false, cond, List, [], ◌∷◌, length, map, take, get_or, refl, sym, ap, ◌∙◌, subst, subst₂, arith, inl, inr, eq-eqb, ne_eqb}
use Rattle.std.specs.Prelude.{Result, IfErr}
use Rattle.std.proofs.lemmas.Bool.{cases_eq}
use Rattle.std.proofs.lemmas.List.{map-append, length-map, take-map}
use Rattle.std.proofs.lemmas.Result.{IfErr-weaker}
use Rattle.std.proofs.Math.ListN as places
use mathlib.Core.Path.{fun_ext}
use Rattle.sqlite_value.specs.Order.{Row}
use Rattle.sqlite_trees.specs.declared.error.StoreError.{StoreError}
use Rattle.sqlite_trees.specs.Tree.{Trees, with_tree}
use Rattle.sqlite_trees.specs.View.{Snapshot, View, KeepsSchema, KeepsCommitted, IsFailure, SetsTree, OnlyWrites, Commits, OnlyCommits, as_committed, IsRolledBack, Marks, Releases, GoesBack, snapshot, newest, Moves, Advances, with_cursor}
use Rattle.sqlite_trees.specs.Objects.{catalog_tree}
use Rattle.tree_order.specs.Numbers.{number, AreInverse}
use Rattle.tree_order.specs.Rows.{renumbered_rows}
use Rattle.tree_order.specs.Renumbered.{renumbered_trees, renumbered_mark, renumbered}
use Rattle.tree_order.specs.NumberLaws.{same_number, number_back, other_way}
use Rattle.tree_order.specs.Laws.{trees_at, never_catalog, renumbered-plain}

-- a number that a call can name is not that of the list
pub named : (tree : ℕ) → tree < 2 ^ 32 → tree ≢ catalog_tree
named tree low = omega arith

module _ (inner outer : List ℕ) where
  pub schema_under : (old new : View) → KeepsSchema old new → KeepsSchema (renumbered inner outer old) (renumbered inner outer new)
  schema_under old new h = record {
    shape = λ i tree. h.shape i (number inner tree);
    reals = λ i tree. h.reals i (number inner tree);
    committed_shape = λ i tree. h.committed_shape i (number inner tree);
    committed_reals = λ i tree. h.committed_reals i (number inner tree);
    numbered = h.numbered;
  }

  pub committed_under : (old new : View) → KeepsCommitted old new → KeepsCommitted (renumbered inner outer old) (renumbered inner outer new)
  committed_under old new h = record {
    shape = λ i tree. h.shape i (number inner tree);
    reals = λ i tree. h.reals i (number inner tree);
    committed_shape = λ i tree. h.committed_shape i (number inner tree);
    committed_reals = λ i tree. h.committed_reals i (number inner tree);
    numbered = h.numbered;
    was_open = h.was_open;
    committed = λ is_open. ap (renumbered_trees inner outer) (h.committed is_open);
    marks = λ is_open. ap (map (renumbered_mark inner outer)) (h.marks is_open);
  }

  pub failure_under : (old new : View) (e : StoreError) → IsFailure old new e → IsFailure (renumbered inner outer old) (renumbered inner outer new) e
  failure_under old new e h = record {
    kept = committed_under old new h.kept;
    unchanged = λ sound. ap (renumbered inner outer) (h.unchanged sound);
    refused = λ clean why. ap (renumbered inner outer) (h.refused clean why);
  }

  pub fails_under : {T : Type 0} (r : Result T StoreError) (old new : View) → IfErr r (IsFailure old new)
      → IfErr r (IsFailure (renumbered inner outer old) (renumbered inner outer new))
  fails_under r old new h = IfErr-weaker r (IsFailure old new) (IsFailure (renumbered inner outer old) (renumbered inner outer new)) (failure_under old new) h

  pub seek_under : (old new : View) (cursor : ℕ) (left left' : List Row) → left ≡ left' → new ≡ with_cursor old cursor left
      → renumbered inner outer new ≡ with_cursor (renumbered inner outer old) cursor left'
  seek_under old new cursor left left' same is = ap (renumbered inner outer) is ∙ ap (with_cursor (renumbered inner outer old) cursor) same

  pub advances_under : (old new : View) (cursor : ℕ) (row : Row) (found : Bool) → Advances old new cursor row found
      → Advances (renumbered inner outer old) (renumbered inner outer new) cursor row found
  advances_under old new cursor row true h = (h.0, h.1, ap (renumbered inner outer) h.2)
  advances_under old new cursor row false h = (h.0, ap (renumbered inner outer) h.1)

  pub moves_under : (old new : View) (cursor : ℕ) → Moves old new cursor → Moves (renumbered inner outer old) (renumbered inner outer new) cursor
  moves_under old new cursor h = record { same = ap (renumbered inner outer) h.same; others = h.others }

  pub writes_under : (old new : View) → OnlyWrites old new → OnlyWrites (renumbered inner outer old) (renumbered inner outer new)
  writes_under old new h = ap (renumbered inner outer) h

  pub commits_under : (old new : View) → Commits old new → Commits (renumbered inner outer old) (renumbered inner outer new)
  commits_under old new h = record { sound = h.sound; is = ap (renumbered inner outer) h.is }

  pub only_commits_under : (old new : View) → OnlyCommits old new → OnlyCommits (renumbered inner outer old) (renumbered inner outer new)
  only_commits_under old new h = ap (renumbered inner outer) h

  as_committed_under : (old : View) (is_open : Bool) → renumbered inner outer (as_committed old is_open) ≡ as_committed (renumbered inner outer old) is_open
  as_committed_under old true = refl
  as_committed_under old false = refl

  pub marks_under : (old new : View) → Marks old new → Marks (renumbered inner outer old) (renumbered inner outer new)
  marks_under old new h = record {
    sound = h.sound;
    is = ap (renumbered inner outer) h.is
        ∙ (λ i. record (renumbered inner outer old) { marks = map-append (renumbered_mark inner outer) old.marks (snapshot old ∷ []) i });
  }

  pub releases_under : (old new : View) → Releases old new → Releases (renumbered inner outer old) (renumbered inner outer new)
  releases_under old new h =
      ap (renumbered inner outer) h
      ∙ (λ i. record (renumbered inner outer old) { marks = (sym (take-map (renumbered_mark inner outer) (length old.marks - 1) old.marks) ∙ ap (λ n. take (n - 1) (map (renumbered_mark inner outer) old.marks)) (sym (length-map old.marks (renumbered_mark inner outer)))) i })

  newest_under : (old : View) → newest (renumbered inner outer old) ≡ renumbered_mark inner outer (newest old)
  newest_under old =
      ap (λ n. get_or (map (renumbered_mark inner outer) old.marks) (n - 1) (renumbered_mark inner outer (snapshot old))) (length-map old.marks (renumbered_mark inner outer))
      ∙ places.get_or-map (renumbered_mark inner outer) old.marks (length old.marks - 1) (snapshot old)

  pub back_under : (old new : View) → GoesBack old new → GoesBack (renumbered inner outer old) (renumbered inner outer new)
  back_under old new h = record {
    was_open = h.was_open;
    is = ap (renumbered inner outer) h.is
        ∙ (λ i. record (renumbered inner outer old) { trees = (gone i).trees; shape = (gone i).shape; reals = (gone i).reals; cursors = new.cursors; is_broken = false });
  }
    where
      gone : renumbered_mark inner outer (newest old) ≡ newest (renumbered inner outer old)
      gone = sym (newest_under old)

  pub some_marks : (marks : List Snapshot) → map (renumbered_mark inner outer) marks ≢ [] → marks ≢ []
  some_marks marks h none = h (ap (map (renumbered_mark inner outer)) none)

  pub no_marks : (marks : List Snapshot) → map (renumbered_mark inner outer) marks ≡ [] → marks ≡ []
  no_marks [] h = refl
  no_marks (mark ∷ marks) h = absurd (cc)

abbrev pub under : {X : Type 0} → List ℕ → (ℕ → X) → ℕ → X
under inner f tree = f (number inner tree)

-- functions that are the same under other numbers are the same
same_under : {X : Type 0} (inner outer : List ℕ) → AreInverse inner outer → (f g : ℕ → X) → under inner f ≡ under inner g → f ≡ g
same_under inner outer h f g same = fun_ext (λ tree.
    let there = number_back outer inner (other_way inner outer h) tree in
    ap f (sym there) ∙ (λ i. same i (number outer tree)) ∙ ap g there)

module _ (inner outer : List ℕ) (h : AreInverse inner outer) where
  pub with_tree_under : (trees : Trees) (tree : ℕ) (rows : List Row) → tree ≢ catalog_tree
      → renumbered_trees inner outer (with_tree trees (number inner tree) rows) ≡ with_tree (renumbered_trees inner outer trees) tree rows
  with_tree_under trees tree rows other = fun_ext (λ t. elim (cases_eq t catalog_tree) [
    | inl same ↦
        ap (renumbered_trees inner outer (with_tree trees (number inner tree) rows)) same
        ∙ ap (λ b. renumbered_rows outer (cond b rows (trees catalog_tree))) (ne_eqb catalog_tree (number inner tree) (λ e. never_catalog inner outer h tree other (sym e)))
        ∙ ap (λ b. cond b rows (renumbered_rows outer (trees catalog_tree))) (sym (ne_eqb catalog_tree tree (λ e. other (sym e))))
        ∙ ap (with_tree (renumbered_trees inner outer trees) tree rows) (sym same)
    | inr apart ↦
        trees_at inner outer (with_tree trees (number inner tree) rows) t apart
        ∙ elim (cases_eq t tree) [
          | inl met ↦
              ap (λ b. cond b rows (trees (number inner t))) (eq-eqb (number inner t) (number inner tree) (ap (number inner) met))
              ∙ ap (λ b. cond b rows (renumbered_trees inner outer trees t)) (sym (eq-eqb t tree met))
          | inr differ ↦
              ap (λ b. cond b rows (trees (number inner t))) (ne_eqb (number inner t) (number inner tree) (λ e. differ (same_number inner outer h t tree e)))
              ∙ sym (trees_at inner outer trees t apart)
              ∙ ap (λ b. cond b rows (renumbered_trees inner outer trees t)) (sym (ne_eqb t tree differ))
        ]
  ])

  -- a tree is edited under its number, with an edit that the number may have a part in
  pub sets_under : (old new : View) (tree n : ℕ) (edit : ℕ → List Row → List Row) → tree ≢ catalog_tree → n ≡ number inner tree → SetsTree old new n (edit n)
      → SetsTree (renumbered inner outer old) (renumbered inner outer new) tree (edit (number inner tree))
  sets_under old new tree n edit other is sets = record {
    sound = sets.sound;
    is = ap (renumbered inner outer) there.is
        ∙ (λ i. record (renumbered inner outer old) { trees = edited i; cursors = new.cursors });
  }
    where
      there : SetsTree old new (number inner tree) (edit (number inner tree))
      there = subst (λ k. SetsTree old new k (edit k)) is sets

      edited : renumbered_trees inner outer (with_tree old.trees (number inner tree) (edit (number inner tree) (old.trees (number inner tree))))
          ≡ with_tree (renumbered_trees inner outer old.trees) tree (edit (number inner tree) (renumbered_trees inner outer old.trees tree))
      edited = with_tree_under old.trees tree (edit (number inner tree) (old.trees (number inner tree))) other
          ∙ ap (λ rows. with_tree (renumbered_trees inner outer old.trees) tree (edit (number inner tree) rows)) (sym (trees_at inner outer old.trees tree other))

  pub rollback_under : (old new : View) → IsRolledBack old new → IsRolledBack (renumbered inner outer old) (renumbered inner outer new)
  rollback_under old new back = record {
    kept = λ clean. subst (λ (v : View). KeepsCommitted v (renumbered inner outer new)) (as_committed_under inner outer old new.is_open) (committed_under inner outer (as_committed old new.is_open) new (back.kept clean));
    shape = λ same i tree. back.shape (same_under inner outer h old.shape old.committed_shape same) i (number inner tree);
    reals = λ same i tree. back.reals (same_under inner outer h old.reals old.committed_reals same) i (number inner tree);
    committed_shape = λ i tree. back.committed_shape i (number inner tree);
    committed_reals = λ i tree. back.committed_reals i (number inner tree);
    numbered = back.numbered;
    undone = λ is_open. (ap (renumbered_trees inner outer) (back.undone is_open).0, (back.undone is_open).1);
  }

  -- with no other number nothing differs
  pub plain_under : length inner ≤ 0 → (below : View) → renumbered inner outer below ≡ below
  plain_under none below = go inner outer (no_list inner none) (no_list outer (omega (arith, h.same)))
    where
      no_list : (xs : List ℕ) → length xs ≤ 0 → xs ≡ []
      no_list [] short = refl
      no_list (x ∷ xs) short = absurd (omega arith)

      go : (i o : List ℕ) → i ≡ [] → o ≡ [] → renumbered i o below ≡ below
      go i o ei eo = subst₂ (λ a b. renumbered a b below ≡ below) (sym ei) (sym eo) (renumbered-plain below)
