-- What comes after the line of the request, which is as long as it is said to be.
use Rattle.std.proofs.Common.{drop, arith, ap, ◌∙◌, subst, inl, inr}
use Rattle.std.specs.Str.{IsTrimAsciiStart}
use Rattle.std.proofs.lemmas.List.{take_rest}
use Rattle.httparse.specs.Grammar.{print_section}
use Rattle.wire.specs.Lines.{fields_in}
use Rattle.wire.proofs.LineLemmas.{after_request_line, end_more, section_fields}
use Rattle.wire.proofs.lines.field_lines.Goals as goal

pub returns-in-Some : goal.returns-in-Some
returns-in-Some c = λ h is e line.
    let text = c.trim_ascii_start.result.now in
    let (fits, rest_after) = after_request_line h text is (subst (λ t. IsTrimAsciiStart t text) e c.trim_ascii_start.ensures.value) in
    let cut = c.in-Some.ensures.lookup.0 in
    let rest = cut.2 ∙ take_rest text c.args.line ∙ ap (λ n. drop n text) line ∙ rest_after in
    ap fields_in rest ∙ end_more h.line_end (print_section h.fields h.last) ∙ section_fields h.fields h.last is.fields

pub returns-in-None : goal.returns-in-None
returns-in-None c = λ h is e line.
    let text = c.trim_ascii_start.result.now in
    let (fits, rest_after) = after_request_line h text is (subst (λ t. IsTrimAsciiStart t text) e c.trim_ascii_start.ensures.value) in
    elim c.in-None.ensures.lookup.0 [ inl short ↦ absurd (omega (arith, short, fits, line)) | inr short ↦ absurd (omega (arith, short)) ]
