-- The route of a bid's target.
use Rattle.std.proofs.Common.{◌≡◌, ℕ, zero, suc, ◌+◌, ◌-◌, ◌<◌, List, [], ◌∷◌, ◌++◌, drop, length, length-append, All, Bool, true, false, refl, ◌∙◌, ap, arith, Option, Some, None, Ok, codes}
use Rattle.std.specs.Prelude.{◌==◌, cond, option_map, is_some}
use Rattle.std.specs.List.{slice_split}
use Rattle.std.specs.Str.{is_utf8}
use Rattle.std.proofs.lemmas.Bool.{lt-ltb}
use Rattle.std.proofs.lemmas.List.Elements.{All-cons, All-nil}
use Rattle.std.proofs.Math.Seq.{drop-append_seam}
use Rattle.std.proofs.lemmas.List.Splits.{slice_split_at}
use Rattle.matchit.specs.Route.{scan}
use Rattle.matchit.specs.Router.{RouteOf}
use Rattle.matchit.specs.Rows.{RowsOf, param_token}
use Rattle.matchit.specs.Seek.{cuts, first, has_slash, longest_suffix, param_step, seek, segment, step, with_suffix}
use Rattle.site_digits.specs.Digits.{number_in}
use Rattle.site_request.specs.Numbers.{command_path_in}
use Rattle.site_request.specs.Routes.{path_in, route_of}
use Rattle.site_request.specs.Segments.{number_at, segment_at}
use Rattle.site_request.specs.Table.{path_of, rows, table}
use Rattle.site_request.specs.declared.command_path.CommandPath.TheVariants as command_path
use Rattle.site_request.specs.declared.path.Path.{Path}
use Rattle.site_request.specs.declared.path.Path.TheVariants.{Post}
use Rattle.site_request.specs.declared.route.Route.TheVariants as route

-- none of the bytes is a slash
abbrev pub no_slash : List ℕ → Type 0
no_slash [] = Unit {0}
no_slash (b ∷ bs) = ((b == 47) ≡ false) × no_slash bs

module _ {K : Type 0} where
  -- no rows lead anywhere
  param_none : (path : List ℕ) → (param_step {K = K} [] path).1 ≡ []
  unfolding param_step
  param_none path = by (has_slash path) where
    by : (b : Bool) → (cond {A = ℕ × RowsOf K} b (0, []) (length path, [])).1 ≡ []
    by true = refl
    by false = refl

  seek_none : (skip : ℕ) (path : List ℕ) → seek {K = K} skip [] path ≡ None
  unfolding seek
  seek_none skip [] = refl
  seek_none (suc skip) (b ∷ path) = seek_none skip path
  seek_none zero (b ∷ path) = rw (seek_none 0 path, param_none (b ∷ path), seek_none ((param_step {K = K} [] (b ∷ path)).0 - 1) path) refl

  -- a byte of the pattern
  lit : (rs : RowsOf K) (b : ℕ) (path : List ℕ) (o : Option K) → is_some o ≡ true → seek 0 (step b rs) path ≡ o → seek 0 rs (b ∷ path) ≡ o
  unfolding seek
  lit rs b path None some e = absurd (let f : false ≡ true = some in cc)
  lit rs b path (Some k) some e = rw e refl

  -- a parameter
  param : (rs : RowsOf K) (b : ℕ) (path : List ℕ) (o : Option K) (n : ℕ) (after : RowsOf K) → is_some o ≡ true → step b rs ≡ []
      → param_step (step param_token rs) (b ∷ path) ≡ (n, after) → seek (n - 1) after path ≡ o → seek 0 rs (b ∷ path) ≡ o
  unfolding seek
  param rs b path None n after some none taken e = absurd (let f : false ≡ true = some in cc)
  param rs b path (Some k) n after some none taken e = rw (none, seek_none 0 path, taken, e) refl

  -- the bytes that it takes
  skips : (ds : List ℕ) (rs : RowsOf K) (rest : List ℕ) → seek (length ds) rs (ds ++ rest) ≡ seek 0 rs rest
  unfolding seek
  skips [] rs rest = refl
  skips (d ∷ ds) rs rest = skips ds rs rest

segment_is : (ds rest : List ℕ) → no_slash ds → segment (ds ++ 47 ∷ rest) ≡ ds ++ 47 ∷ []
segment_is [] rest none = refl
segment_is (d ∷ ds) rest none = rw none.0 (ap (λ s. d ∷ s) (segment_is ds rest none.1))

-- what a segment takes, as long as its rows go on with a slash
cuts_end : (xs : List ℕ) → 0 < length xs → cuts (xs ++ 47 ∷ []) (47 ∷ []) ≡ true
cuts_end xs some =
    let long : 1 < length (xs ++ 47 ∷ []) = omega (arith, length-append xs (47 ∷ []), some) in
    let place : length (xs ++ 47 ∷ []) - 1 ≡ length xs = omega (arith, length-append xs (47 ∷ [])) in
    let last : drop (length (xs ++ 47 ∷ []) - 1) (xs ++ 47 ∷ []) ≡ 47 ∷ [] = rw place (drop-append_seam xs (47 ∷ [])) in
    rw (lt-ltb 1 (length (xs ++ 47 ∷ [])) long, last) refl

taken : {K : Type 0} (rs : RowsOf K) (xs rest : List ℕ) → no_slash xs → longest_suffix (xs ++ 47 ∷ []) rs ≡ 47 ∷ []
    → param_step rs (xs ++ 47 ∷ rest) ≡ (length xs, with_suffix (47 ∷ []) rs)
unfolding param_step
taken rs xs rest none longest =
    let place : length (xs ++ 47 ∷ []) - 1 ≡ length xs = omega (arith, length-append xs (47 ∷ [])) in
    rw (segment_is xs rest none, longest, place) refl

-- the rows after `/items/`, and after a segment and a slash
abbrev after_items : RowsOf (RouteOf Path)
after_items = step 47 (step 115 (step 109 (step 101 (step 116 (step 105 (step 47 rows))))))

abbrev after_item : RowsOf (RouteOf Path)
after_item = with_suffix (47 ∷ []) (step param_token after_items)

longest : (seg : List ℕ) → cuts seg (47 ∷ []) ≡ true → longest_suffix seg (step param_token after_items) ≡ 47 ∷ []
unfolding rows table scan
longest seg cut = rw cut refl

no_byte : (b : ℕ) → (256 == b) ≡ false → step b after_items ≡ []
unfolding rows table scan
no_byte b not = rw not refl

-- the path of bids
abbrev found : Option (RouteOf Path)
found = seek 0 after_item (codes "/bids")

is_found : is_some found ≡ true
unfolding seek param_step rows table scan
is_found = refl

found_is : option_map (λ (r : RouteOf Path). r.value) found ≡ Some (Post (command_path.Bid 0))
unfolding seek param_step rows table scan
found_is = refl

to_the_end : (b : ℕ) (ds : List ℕ) → no_slash (b ∷ ds) → (256 == b) ≡ false → seek 0 after_items (b ∷ (ds ++ codes "/bids")) ≡ found
to_the_end b ds none not =
    let e : length (b ∷ ds) - 1 ≡ length ds = omega arith in
    let some : 0 < length (b ∷ ds) = omega arith in
    param after_items b (ds ++ codes "/bids") found (length (b ∷ ds)) after_item is_found (no_byte b not)
    (taken (step param_token after_items) (b ∷ ds) (codes "bids") none (longest ((b ∷ ds) ++ 47 ∷ []) (cuts_end (b ∷ ds) some)))
    (rw e (skips ds after_item (codes "/bids")))

-- the target of bids on the item of these digits
abbrev pub bid_target : List ℕ → List ℕ
bid_target ds = codes "/items/" ++ ds ++ codes "/bids"

target_path : (b : ℕ) (ds : List ℕ) → no_slash (b ∷ ds) → (256 == b) ≡ false → path_of (bid_target (b ∷ ds)) ≡ Some (Post (command_path.Bid 0))
unfolding path_of
target_path b ds none not =
    let rest = ds ++ codes "/bids" in
    let r1 = step 47 rows in
    let r2 = step 105 r1 in
    let r3 = step 116 r2 in
    let r4 = step 101 r3 in
    let r5 = step 109 r4 in
    let r6 = step 115 r5 in
    let whole : first rows (bid_target (b ∷ ds)) ≡ found =
    lit rows 47 _ found is_found (lit r1 105 _ found is_found (lit r2 116 _ found is_found (lit r3 101 _ found is_found (lit r4 109 _ found is_found
    (lit r5 115 _ found is_found (lit r6 47 _ found is_found (to_the_end b ds none not))))))) in
    ap (option_map (λ (r : RouteOf Path). r.value)) whole ∙ found_is

all_not : (ds : List ℕ) → no_slash ds → All (λ b. (b == 47) ≡ false) ds
all_not [] none = All-nil (λ b. (b == 47) ≡ false)
all_not (d ∷ ds) none = All-cons (λ b. (b == 47) ≡ false) d ds none.0 (all_not ds none.1)

target_number : (ds : List ℕ) → no_slash ds → number_at 2 (bid_target ds) ≡ number_in ds
unfolding number_at segment_at
target_number ds none =
    let split : slice_split (λ b. b == 47) (ds ++ codes "/bids") ≡ ds ∷ slice_split (λ b. b == 47) (codes "bids") =
    slice_split_at (λ b. b == 47) ds 47 (codes "bids") (all_not ds none) refl in
    rw split refl

-- its route
pub target_route : (b : ℕ) (ds : List ℕ) (i : ℕ) → no_slash (b ∷ ds) → (256 == b) ≡ false → is_utf8 (bid_target (b ∷ ds)) ≡ true → number_in (b ∷ ds) ≡ Some i
    → route_of (codes "POST") (bid_target (b ∷ ds)) ≡ Ok (route.Post (command_path.Bid i))
unfolding route_of path_in command_path_in
target_route b ds i none not utf8 number =
    rw (utf8, target_path b ds none not, target_number (b ∷ ds) none, number) refl
