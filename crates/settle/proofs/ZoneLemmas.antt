-- What a zone says of a moment is read from the rule's text alone.
use Rattle.std.proofs.Common.{◌≡◌, ℕ, List, Option, Some, None, option_map, Bool, true, false, if◌then◌else◌, refl, ap, ℤ}
use Rattle.jiff_core.specs.declared.Offset.{Offset}
use Rattle.jiff_tz.specs.declared.posix.DayTime.{DayTime}
use Rattle.jiff_tz.specs.declared.posix.Dst.{Dst}
use Rattle.jiff_tz.specs.declared.posix.TimeZone.{TimeZone as Rule}
use Rattle.jiff_tz.specs.declared.timezone.TimeZone.{TimeZone as Plain}
use Rattle.jiff_tz.specs.declared.timezone.TimeZone.TheVariants.{UTC, Unknown, Fixed, Posix, Tzif}
use Rattle.jiff_tz.specs.PosixRule.{rule_nanos, utc_window, dst_at_by, match_some, offset_at as rule_offset_at, in_window}
use Rattle.jiff_tz.specs.PosixText.{tz_view, dst_view, day_time_view}
use Rattle.jiff_tz.specs.Zone.{offset_at}
use Rattle.jiff_tz.specs.Year.{year_of_nanos}
use Rattle.jiff.specs.Placed.{IsPosixZone}
use Rattle.settle.specs.Zoned.{IsZoneOf, day_at, instant_of}
use Rattle.settle.specs.declared.zone.Zone.{Zone}

same_moment : (y : ℤ) (a b : DayTime) (s : ℤ) → day_time_view a ≡ day_time_view b → rule_nanos y a s ≡ rule_nanos y b s
unfolding rule_nanos
same_moment y a b s e =
    let date : a.date ≡ b.date = ap (λ p. p.0) e in
    let time : a.time ≡ b.time = ap (λ p. p.1) e in
    rw (date, time) refl

same_window : (a b : Dst) (y : ℤ) (s t : Offset) → dst_view a ≡ dst_view b → s.seconds ≡ t.seconds → utc_window a y s ≡ utc_window b y t
unfolding utc_window
same_window a b y s t e std =
    let seconds : a.offset.seconds ≡ b.offset.seconds = ap (λ v. v.seconds) e in
    let start : day_time_view a.rule.start ≡ day_time_view b.rule.start = ap (λ v. v.start) e in
    let finish : day_time_view a.rule.end ≡ day_time_view b.rule.end = ap (λ v. v.finish) e in
    rw (std, seconds, same_moment y a.rule.start b.rule.start t.seconds start, same_moment y a.rule.end b.rule.end b.offset.seconds finish) refl

chosen : (test : Bool) (a b : Dst) (s t : Offset) → a.offset.seconds ≡ b.offset.seconds → s.seconds ≡ t.seconds
    → (match_some (if test then Some a else None) s (λ d. d.offset)).seconds ≡ (match_some (if test then Some b else None) t (λ d. d.offset)).seconds
chosen true a b s t dst std = dst
chosen false a b s t dst std = std

same_dst : (a b : Option Dst) (s t : Offset) (n : ℤ) → option_map dst_view a ≡ option_map dst_view b → s.seconds ≡ t.seconds
    → (match_some (dst_at_by s a n) s (λ d. d.offset)).seconds ≡ (match_some (dst_at_by t b n) t (λ d. d.offset)).seconds
same_dst None None s t n e std = std
same_dst None (Some b) s t n e std = cc
same_dst (Some a) None s t n e std = cc
same_dst (Some a) (Some b) s t n e std =
    let views : dst_view a ≡ dst_view b = cc in
    let window : utc_window a (year_of_nanos n) s ≡ utc_window b (year_of_nanos n) t = same_window a b (year_of_nanos n) s t views std in
    rw window (chosen (in_window (utc_window b (year_of_nanos n) t) n) a b s t (ap (λ v. v.seconds) views) std)

same_rule : (a b : Rule) (n : ℤ) → tz_view a ≡ tz_view b → (rule_offset_at a n).seconds ≡ (rule_offset_at b n).seconds
same_rule a b n e = same_dst a.dst b.dst a.std_offset b.std_offset n (ap (λ v. v.dst) e) (ap (λ v. v.std_seconds) e)

same_offset : (text : List ℕ) (a b : Plain) (n : ℤ) → IsPosixZone text a → IsPosixZone text b → offset_at a n ≡ offset_at b n
unfolding offset_at
same_offset text (Posix a) (Posix b) n ha hb =
    let views : tz_view a ≡ tz_view b = cc in
    same_rule a b n views
same_offset text UTC b n ha hb = absurd ha
same_offset text Unknown b n ha hb = absurd ha
same_offset text (Fixed o) b n ha hb = absurd ha
same_offset text (Tzif z) b n ha hb = absurd ha
same_offset text (Posix a) UTC n ha hb = absurd hb
same_offset text (Posix a) Unknown n ha hb = absurd hb
same_offset text (Posix a) (Fixed o) n ha hb = absurd hb
same_offset text (Posix a) (Tzif z) n ha hb = absurd hb

-- two zones of one text give each moment the same day
pub same_day : (text : List ℕ) (a b : Zone) (moment : ℕ) → IsZoneOf text a → IsZoneOf text b → day_at a moment ≡ day_at b moment
unfolding day_at
same_day text a b moment ha hb =
    let e = same_offset text a.rule.inner b.rule.inner (instant_of moment) ha hb in
    rw e refl
