-- The results of a question and of feedback.
use Rattle.std.proofs.Common.{Bor, ◌≡◌, ◌∷◌, ◌+◌, ℕ, List, [], map, true, refl, ◌∙◌, ap, sym, inl, inr, arith, Some}
use Rattle.std.specs.Prelude.{◌==◌, ◌&&◌}
use Rattle.std.proofs.lemmas.Bool.Decides.{nat_tests}
use Rattle.house.specs.Decided.{IsAccepted}
use Rattle.house.specs.Own.{IsOf}
use Rattle.house_rows.specs.declared.change.Change.TheVariants as change
use Rattle.house_rows.specs.declared.command.Command.{Command}
use Rattle.house_rows.specs.declared.command.Command.TheVariants as command
use Rattle.house_rows.specs.declared.rating.Rating.{Rating}
use Rattle.house_rows.specs.declared.settings.Settings.{Settings}
use Rattle.house_rows.specs.declared.talk.Question.{Question as AQuestion}
use Rattle.house_rows.specs.declared.command_result.CommandResult.TheVariants.{Question, Rated}
use Rattle.house_rows.specs.Changed.{changed, is_item}
use Rattle.house_rows.specs.Found.{ask_count, row_at}
use Rattle.house_rows.specs.History.{History, counted, is_less, put_by}
use Rattle.house_rows.specs.Questions.{Asked, answered, answers, ask_count as asked_count, asked, asked_key, questions}
use Rattle.house_rows.specs.Ratings.{other_party}
use Rattle.house_rows.specs.Runs.{entry}
use Rattle.house_rows.specs.Tables.{ItemRow, Tables, tables_of}
use Rattle.house_rows.specs.CommandResult.{rated_result}
use Rattle.house_rows.specs.Views.{own_questions}
use Rattle.house_rows.proofs.ChangedRows.{there_is}
use Rattle.house_rows.proofs.Own.{count_own}
use Rattle.house_rows.proofs.Put.{by_test}
use Rattle.house_rows.proofs.Shown.{shown_row}
use Rattle.site_results.proofs.Seen.{IsReported, accepted_as, seen_after, report_as}

-- questions are as many with their answers as without
count_answered : (given : List Asked) (c i : ℕ) (qs : List Asked) → counted (λ (q : AQuestion). (q.asker == c) && (q.item == i)) (map (answered given) qs) ≡ asked_count qs c i
count_answered given c i [] = refl
count_answered given c i (q ∷ qs) = grind (arith, nat_tests, count_answered given c i qs)

count_kept : (settings : Settings) (h : History) (c i : ℕ) → ask_count (tables_of settings h) c i ≡ asked_count (asked h) c i
unfolding tables_of questions
count_kept settings h c i = count_answered (answers h) c i (asked h)

-- one that is put counts
count_put : (x : Asked) (c i : ℕ) (qs : List Asked) → x.asker ≡ c → x.item ≡ i → asked_count (put_by asked_key x qs) c i ≡ asked_count qs c i + 1
count_put x c i [] by on = grind (arith, nat_tests, by, on)
count_put x c i (q ∷ qs) by on =
    elim (by_test (is_less (asked_key x) (asked_key q))) [
      | inl less ↦ rw less (grind (arith, nat_tests, by, on))
      | inr not ↦ rw not (grind (arith, nat_tests, count_put x c i qs by on))
    ]

-- the number of a question is the count of its asker's own
number_reported : (h : History) (moment caller i number : ℕ) (text : List ℕ) → number ≡ asked_count (asked h) caller i + 1
    → number ≡ asked_count (own_questions (entry moment caller (command.Ask i text) ∷ h) caller) caller i
unfolding own_questions
number_reported h moment caller i number text next =
    let x : Asked = record { item = i; asker = caller; number = asked_count (asked h) caller i + 1; text = text } in
    next ∙ sym (count_put x caller i (asked h) refl refl) ∙ count_own caller i (put_by asked_key x (asked h))

pub ask_reported : (settings : Settings) (h : History) (moment caller : ℕ) (k : Command) (i asker number : ℕ) (text : Bor (List ℕ))
    → IsAccepted settings h moment caller k (change.Ask i asker number text) → IsOf moment caller k (change.Ask i asker number text)
    → IsReported settings h moment caller k (Question asker i number)
ask_reported settings h moment caller k i asker number text is own =
    let fits = is.fits in
    let same : asker ≡ caller = own.same_caller in
    let next : number ≡ asked_count (asked h) caller i + 1 = fits.numbered ∙ ap (λ n. n + 1) (count_kept settings h asker i) ∙ ap (λ c. asked_count (asked h) c i + 1) same in
    report_as settings h moment caller (command.Ask i text.now) k (Question asker i number) own.same_command
    (ap (λ c. Question c i number) same ∙ ap (λ n. Question caller i n) (number_reported h moment caller i number text.now next))

-- feedback leaves the rows of items
row_rated : (t : Tables) (at' i from to : ℕ) (rating : Rating) (text : Bor (List ℕ)) (row : ItemRow) → row_at t i ≡ Some row
    → row_at (changed t (change.Feedback at' i from to rating text)) i ≡ Some row
unfolding changed
row_rated t at' i from to rating text row found = found

rated_now : (t : Tables) (i caller : ℕ) (rating : Rating) (row : ItemRow) → is_item i row ≡ true
    → rated_result caller (Some rating) (Some (shown_row t row)) ≡ Rated i rating (other_party row.item.terms.seller row.item.terms.leader caller)
rated_now t i caller rating row here =
    let same : row.item.terms.item ≡ i = grind (arith, nat_tests, here) in
    ap (λ n. Rated n rating (other_party row.item.terms.seller row.item.terms.leader caller)) same

rating_reported : (settings : Settings) (h : History) (moment caller at' i to : ℕ) (rating : Rating) (text : Bor (List ℕ))
    → IsAccepted settings h moment caller (command.Feedback i (Some rating) text.now) (change.Feedback at' i caller to rating text)
    → IsReported settings h moment caller (command.Feedback i (Some rating) text.now) (Rated i rating to)
rating_reported settings h moment caller at' i to rating text is =
    let fits = is.fits in
    let here = there_is (tables_of settings h) i fits.row fits.row_there in
    let now = row_rated (tables_of settings h) at' i caller to rating text fits.row fits.row_there in
    ap (Rated i rating) fits.receiver
    ∙ sym (rated_now (changed (tables_of settings h) (change.Feedback at' i caller to rating text)) i caller rating fits.row here)
    ∙ ap (rated_result caller (Some rating)) (sym (seen_after settings h moment caller i (command.Feedback i (Some rating) text.now) (change.Feedback at' i caller to rating text) fits.row is now))

pub feedback_reported : (settings : Settings) (h : History) (moment caller : ℕ) (k : Command) (at' i from to : ℕ) (rating : Rating) (text : Bor (List ℕ))
    → IsAccepted settings h moment caller k (change.Feedback at' i from to rating text) → IsOf moment caller k (change.Feedback at' i from to rating text)
    → IsReported settings h moment caller k (Rated i rating to)
feedback_reported settings h moment caller k at' i from to rating text is own =
    let same : from ≡ caller = own.same_caller in
    report_as settings h moment caller (command.Feedback i (Some rating) text.now) k (Rated i rating to) own.same_command
    (rating_reported settings h moment caller at' i to rating text
    (rw same at (accepted_as settings h moment caller (command.Feedback i (Some rating) text.now) k (change.Feedback at' i from to rating text) own.same_command is)))
