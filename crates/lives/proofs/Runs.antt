-- What the runs of the program leave.
use Rattle.std.proofs.Common.{◌≡◌, ◌∙◌, ◌⊎◌, ℕ, List, [], Bool, true, false, arith, refl, inl, inr, sym, subst}
use Rattle.std.proofs.Math.Logic.{∥∥₁_map}
use Rattle.auction_runs.specs.Listed.{HasOrderedIn, IsOrderedOver}
use Rattle.auction_runs.specs.Over.{IsOver, IsReadOver}
use Rattle.auction_runs.specs.Runs.{HasAnsweredSome, HasDone, IsMadeBy, IsServedOver, IsUpgradedAs, MayHaveSetTable}
use Rattle.auction_words.specs.Houses.{IsSetBy}
use Rattle.auction_words.specs.declared.command_line.HouseWords.{HouseWords}
use Rattle.device.specs.declared.failure.Failure.{Failure}
use Rattle.device.specs.declared.sink.Sink as sink
use Rattle.device.specs.declared.source.Source as source
use Rattle.house_rows.specs.Keeping.{IsRead}
use Rattle.house_rows.specs.Tables.{Tables, tables_of}
use Rattle.house_rows.specs.declared.settings.Settings.{Settings}
use Rattle.office.specs.declared.lister.Lister.{Lister}
use Rattle.settle.specs.Zoned.{IsZoneOf}
use Rattle.settle.specs.declared.zone.Zone.{Zone}
use Rattle.site.specs.Replies.{IsStep}
use Rattle.site.specs.Runs.{InTurn}
use Rattle.site_connections.specs.Turns.{Takes}
use Rattle.site_connections.specs.declared.connection.Connection.{Connection}
use Rattle.site_request.specs.declared.asked.Asked.{Asked}
use Rattle.site_serve.specs.declared.server.ServeFault.{ServeFault}
use Rattle.site_serve.specs.declared.server.Served.{Served}
use Rattle.sqlite.specs.Effect.{Database}
use Rattle.sqlite.specs.Files.{HoldsDatabase}
use Rattle.sqlite_disk.specs.declared.Disk.{Ghosts}
use Rattle.sqlite_disk.specs.declared.Files.{Files}
use Rattle.sqlite_store.specs.declared.store.FileStore.{FileStore}
use Rattle.sqlite_trees.specs.Tree.{Trees}
use Rattle.sqlite_wal.specs.Files.{outcomes}
use Rattle.sqlite_wal.specs.Reads.{AreClean}
use Rattle.sqlite_wal.specs.Recovery.{Image}
use Rattle.std.specs.Prelude.{Option, Result}
use Rattle.store.specs.Closing.{IsEnded, IsLeft}
use Rattle.store.specs.InOrder.{over_order}
use Rattle.store.specs.Kept.{House, IsHonest, MayLeave, content, is_failed}
use Rattle.store_files.specs.Opened.{IsMade, IsOpened, IsUpgraded}
use Rattle.store_files.specs.InOrder.{HoldsTables, shown_house, tables_after}
use Rattle.store_house.specs.Named.{IsArranged, UpgradesHeld, tables_held}
use Rattle.store_rows.specs.House.{IsHouse}
use Rattle.tree_order.specs.declared.renumbered.Renumbered.{Renumbered}
use Rattle.lives.specs.Exchanges.{TakesAs}
use Rattle.lives.specs.Lives.{Answers, Does, EndsAs, FindsTables, HoldHistory, HoldsToldHouse, IsAnswering, IsBegun, IsListing, IsRunTo, IsServing, Leaves, MayList, MayServe, MaySet, Run, Sets, over_disk}
use Rattle.lives.proofs.Lives.{made_holds, was_honest}
use Rattle.lives.proofs.Turns.{orders_in_turn, some_as, turn_of_some}

-- a keep that is as it was was only read
read_nothing : {K : Type 0} (content : K → Tables) (is_failed : K → Bool) (is_honest : K → Type 0)
    (may_leave : K → Tables → Type 0) (old new : K) → new ≡ old
    → IsRead content is_failed is_honest may_leave old new
read_nothing content is_failed is_honest may_leave old new same = subst
    (λ k. IsRead content is_failed is_honest may_leave old k) (sym same) (record {
      same = λ _ _. refl;
      honest = λ fine. fine;
      stays = λ failed. failed;
      crash = λ _ t may. may;
    })

-- the house that an upgrade shows was made of one of version 1, or it was there
told_house : (was_first : Bool) (db : Trees) (now : Database) → IsHouse now
    → (was_first ≡ true → UpgradesHeld db now) → (was_first ≡ false → IsArranged db now.trees)
    → HoldsToldHouse was_first db
told_house true db now house first kept =
    let held = first refl in
    let was = held.upgrades.was in
    (was.0, was.1, subst (λ (t : Trees). IsArranged db t) (sym was.2) held.arranged)
told_house false db now house first kept = (now, house, kept refl)

module _ {D : Type 0} {g : Ghosts D} (image left : Image) (name : List ℕ) (files : Files D)
    (clean : AreClean g files.log files.db) (outcome : outcomes g files.log files.db left) where
  -- whichever end it was
  where_ended : {Is : (House (Renumbered (FileStore D g)) → Type 0) → Type 0} (last : House (Renumbered (FileStore D g)))
      → IsOver (IsEnded g) (IsLeft g) last files
      → ((Ends : House (Renumbered (FileStore D g)) → Type 0) → Ends last → Is Ends) → EndsAs g left files Is
  where_ended last (inl ended) is = inl (is (Leaves g left) (record {
    honest = (ended.kept clean).honest;
    left_so = (ended.kept clean).left left outcome;
  }))
  where_ended last (inr not) is = inr (is (λ keep. IsLeft g keep files) not)

  abbrev run_of : (Ends : House (Renumbered (FileStore D g)) → Type 0) (zone : Zone) (run : Run)
      (opened last : House (Renumbered (FileStore D g)))
      → IsOpened (content over_order) is_failed (IsHonest over_order) (MayLeave over_order)
      name image name opened
      → Does (over_disk g) zone run opened last → Ends last → IsRunTo g zone image run Ends
  run_of Ends zone run opened last is_opened done ended = record {
    opened = opened;
    name = name;
    is_opened = is_opened;
    last = last;
    done = done;
    ended = ended;
  }

  -- it was only read
  read_run : (Ends : House (Renumbered (FileStore D g)) → Type 0) (opened last : House (Renumbered (FileStore D g)))
      → IsOpened (content over_order) is_failed (IsHonest over_order) (MayLeave over_order)
      name image name opened
      → IsRead (content over_order) is_failed (IsHonest over_order) (MayLeave over_order) opened last
      → Ends last → (zone : Zone) → IsRunTo g zone image (Answers [] []) Ends
  read_run Ends opened last is_opened read ended zone =
      run_of Ends zone (Answers [] []) opened last is_opened (record {
        begun = opened;
        so = inl refl;
        after = opened;
        turn = refl;
        read = read;
      }) ended

  pub readings_are_runs : HasDone (IsOpened (content over_order) is_failed (IsHonest over_order)
      (MayLeave over_order) name image name) (IsReadOver (content over_order) is_failed
      (IsHonest over_order) (MayLeave over_order) (IsEnded g) (IsLeft g)) files
      → EndsAs g left files (λ Ends. (zone : Zone) → IsRunTo g zone image (Answers [] []) Ends)
  readings_are_runs run = where_ended run.done.last run.done.over (λ Ends ended.
      read_run Ends run.given run.done.last run.begun run.done.read ended)

  -- the zone that is kept is that which was
  zone_of_opened : (opened begun : House (Renumbered (FileStore D g))) (zone : Zone)
      → IsBegun (over_disk g) opened begun → IsHonest over_order begun
      → IsZoneOf (content over_order begun).settings.zone zone
      → IsZoneOf (content over_order opened).settings.zone zone
  zone_of_opened opened begun zone (inl same) honest kept =
      subst (λ k. IsZoneOf (content over_order k).settings.zone zone) same kept
  zone_of_opened opened begun zone (inr (read, works)) honest kept =
      subst (λ t. IsZoneOf t.settings.zone zone) (read.same honest works) kept

  -- messages in turn, by the zone that was kept
  abbrev answers_run : (Ends : House (Renumbered (FileStore D g)) → Type 0) (opened begun last : House (Renumbered (FileStore D g)))
      (zone : Zone) (asked : List Asked) (replies : List (List ℕ))
      → IsOpened (content over_order) is_failed (IsHonest over_order) (MayLeave over_order)
      name image name opened
      → IsBegun (over_disk g) opened begun
      → (IsHonest over_order begun → IsZoneOf (content over_order begun).settings.zone zone)
      → InTurn (IsStep (content over_order) is_failed (IsHonest over_order) (MayLeave over_order)
      zone) asked replies begun last
      → Ends last → IsAnswering g image Ends
  answers_run Ends opened begun last zone asked replies is_opened so kept turn ended = record {
    zone = zone;
    asked = asked;
    replies = replies;
    run = run_of Ends zone (Answers asked replies) opened last is_opened (record {
      begun = begun;
      so = so;
      after = last;
      turn = turn;
      read = read_nothing (content over_order) is_failed (IsHonest over_order)
          (MayLeave over_order) last last refl;
    }) ended;
    kept_zone = λ fine.
        let honest = was_honest (content over_order) is_failed (IsHonest over_order)
        (MayLeave over_order) zone asked replies begun last turn fine in
        zone_of_opened opened begun zone so honest (kept honest);
  }

  -- the orders of lots
  listing_run : (by : Lister) (Ends : House (Renumbered (FileStore D g)) → Type 0)
      (opened last : House (Renumbered (FileStore D g)))
      → IsOpened (content over_order) is_failed (IsHonest over_order) (MayLeave over_order)
      name image name opened
      → HasOrderedIn (content over_order) is_failed (IsHonest over_order) (MayLeave over_order) by
      opened last
      → Ends last → IsListing g image by Ends
  listing_run by Ends opened last is_opened ordered ended =
      let (asked, replies, orders, turn) = orders_in_turn
      (IsStep (content over_order) is_failed (IsHonest over_order) (MayLeave over_order) ordered.zone)
      by ordered.ordered.lots ordered.asked last ordered.ordered.orders in
      record {
        answering = answers_run Ends opened ordered.asked last ordered.zone asked replies is_opened
            (inr (ordered.read, ordered.works)) ordered.kept_zone turn ended;
        lots = ordered.ordered.lots;
        orders = orders;
      }

  pub imports_are_runs : (by : Lister) → HasDone (IsOpened (content over_order) is_failed
      (IsHonest over_order) (MayLeave over_order) name image name) (IsOrderedOver (content over_order)
      is_failed (IsHonest over_order) (MayLeave over_order) (IsEnded g) (IsLeft g) by) files
      → EndsAs g left files (MayList g image by)
  imports_are_runs by run = where_ended {Is = MayList g image by} run.done.last run.done.over (λ Ends ended.
      elim run.done.ordered [
        | inl read ↦ inl (read_run Ends run.given run.done.last run.begun read ended)
        | inr ordered ↦ inr (listing_run by Ends run.given run.done.last run.begun ordered ended)
      ])

  pub settings_are_runs : (moment : ℕ) → HasDone (IsOpened (content over_order) is_failed
      (IsHonest over_order) (MayLeave over_order) name image name)
      (MayHaveSetTable (over_disk g) (IsEnded g) (IsLeft g) moment) files
      → EndsAs g left files (MaySet g image moment)
  settings_are_runs moment run =
      let table = run.done.over in
      where_ended {Is = MaySet g image moment} table.last table.over (λ Ends ended.
      let set : MaySet g image moment Ends = (
        run.done.bands,
        λ zone.
            run_of Ends zone (Sets moment run.done.bands) run.given table.last run.begun table.may ended,
      ) in
      set)

  -- the messages of connections
  serving_run : {C R W : Type 0} (input : source.Ghosts R) (output : sink.Ghosts W)
      (accepts : C → Result (Option (Connection R W)) Failure → C → Type 0)
      (ends : C → Connection R W → Result Served ServeFault → C → Type 0) (is_at : C → Type 0)
      (most count : ℕ) (Ends : House (Renumbered (FileStore D g)) → Type 0)
      (opened last : House (Renumbered (FileStore D g)))
      → IsOpened (content over_order) is_failed (IsHonest over_order) (MayLeave over_order)
      name image name opened
      → HasAnsweredSome (over_disk g) is_at
      (λ zone. Takes (over_disk g) input output accepts ends zone most) count opened last
      → Ends last → IsServing g image is_at
      (λ zone. TakesAs (over_disk g) input output accepts ends zone most) count Ends
  serving_run input output accepts ends is_at most count Ends opened last is_opened some ended =
      let (asked, replies, exchanged) = some_as (over_disk g) input output accepts ends some.zone
      most count (some.came, opened) last some.some in
      record {
        answering = answers_run Ends opened opened last some.zone asked replies is_opened (inl refl)
            some.kept_zone
            (turn_of_some (over_disk g) input output accepts ends some.zone most count asked replies
            (some.came, opened) last exchanged) ended;
        came = some.came;
        listened = some.listened;
        exchanged = exchanged;
      }

  pub servings_are_runs : {C R W : Type 0} (input : source.Ghosts R) (output : sink.Ghosts W)
      (accepts : C → Result (Option (Connection R W)) Failure → C → Type 0)
      (ends : C → Connection R W → Result Served ServeFault → C → Type 0) (is_at : C → Type 0)
      (most count : ℕ)
      → HasDone (IsOpened (content over_order) is_failed (IsHonest over_order) (MayLeave over_order)
      name image name) (IsServedOver (over_disk g) is_at (IsEnded g) (IsLeft g)
      (λ zone. Takes (over_disk g) input output accepts ends zone most) count) files
      → EndsAs g left files (MayServe g image is_at
      (λ zone. TakesAs (over_disk g) input output accepts ends zone most) count)
  servings_are_runs input output accepts ends is_at most count run =
      where_ended {Is = MayServe g image is_at
      (λ zone. TakesAs (over_disk g) input output accepts ends zone most) count} run.done.last
      run.done.over (λ Ends ended. elim run.done.answered [
        | inl same ↦ inl (read_run Ends run.given run.done.last run.begun (read_nothing
            (content over_order) is_failed (IsHonest over_order) (MayLeave over_order) run.given
            run.done.last same) ended)
        | inr some ↦ inr (serving_run input output accepts ends is_at most count Ends run.given
            run.done.last run.begun some ended)
      ])

  -- of a keep that could not be ended its tables alone are found
  finds_tables : (keep : House (Renumbered (FileStore D g)))
      → Rattle.store_files.specs.Opened.IsBegun (content over_order) is_failed (IsHonest over_order)
      (MayLeave over_order) keep
      → (not : IsLeft g keep files) (P : Tables → Type 0)
      → (IsHonest over_order keep → P (content over_order keep)) → FindsTables g files P
  finds_tables keep begun not P so = record {
    keep = keep;
    left = not;
    tables = λ db may.
        let fine : IsHonest over_order keep = omega (arith, not.closed.clean, may.honest) in
        subst P (sym (begun.only fine (tables_held db) (not.tables may.honest db may.recovers))) (so fine);
  }

  pub makings_leave_no_history : (words : HouseWords)
      → HasDone (IsMadeBy (IsMade (content over_order) is_failed (IsHonest over_order)
      (MayLeave over_order) name image name) words) (IsOver (IsEnded g) (IsLeft g)) files
      → (settings : Settings) × IsSetBy words settings
      × (∥ HoldHistory settings [] left ∥₁ ⊎ FindsTables g files (λ t. t ≡ tables_of settings []))
  makings_leave_no_history words run = (
    run.begun.settings,
    run.begun.by_words,
    elim run.done [
      | inl ended ↦ inl (made_holds run.begun.settings name image left run.given run.begun.made
          (ended.kept clean).honest ((ended.kept clean).left left outcome))
      | inr not ↦ inr (finds_tables run.given run.begun.made.begun not
          (λ t. t ≡ tables_of run.begun.settings []) run.begun.made.empty)
    ],
  )

  pub upgrades_leave_the_tables : (run : HasDone (IsUpgradedAs (IsUpgraded (content over_order) is_failed
      (IsHonest over_order) (MayLeave over_order) shown_house name image name))
      (IsOver (IsEnded g) (IsLeft g)) files)
      → (db : Trees) → HoldsDatabase image db
      → (HoldsToldHouse run.begun.was_first db
      × ∥ HoldsTables left (tables_after run.begun.was_first db) ∥₁)
      ⊎ FindsTables g files (λ t. HoldsToldHouse run.begun.was_first db
      × (t ≡ tables_after run.begun.was_first db))
  upgrades_leave_the_tables run db holds =
      let is = run.begun.upgraded in
      let told : IsHonest over_order run.given → HoldsToldHouse run.begun.was_first db = λ honest.
      told_house run.begun.was_first db (shown_house run.given) (is.house honest)
      (λ was. is.first refl honest was db holds) (λ was. is.kept refl honest was db holds) in
      elim run.done [
        | inl ended ↦ inl (
          told (ended.kept clean).honest,
          ∥∥₁_map ((ended.kept clean).left left outcome) (λ found.
              let r : HoldsTables left (tables_after run.begun.was_first db) = record {
                db = found.0;
                holds = found.1;
                tables = sym (is.begun.only (ended.kept clean).honest (tables_held found.0) found.2
                    ∙ is.found refl (ended.kept clean).honest db holds);
              } in
              r),
        )
        | inr not ↦ inr (finds_tables run.given is.begun not
            (λ t. HoldsToldHouse run.begun.was_first db × (t ≡ tables_after run.begun.was_first db))
            (λ honest. (told honest, is.found refl honest db holds)))
      ]
