-- Each part is of one field more.
use Rattle.std.proofs.Common.{◌||◌, sym, ap, ◌∙◌, codes}
use Rattle.std.specs.List.{list_any}
use Rattle.wire.specs.Fields.{Pair, has_transfer, names_close, values_of}
use Rattle.wire.proofs.FieldLemmas.{any_more, count_more, transfer_more}
use Rattle.wire.proofs.known.Known.add.Goals as goal

pub returns : goal.returns
returns c = λ fields known.
    let f : Pair = (c.args.name.now, c.args.value.now) in
    record {
      hosts = count_more (codes "host") fields f.0 f.1 c.is_same.result c.and-self.result c.is_same.ensures (c.and-self.ensures (values_of
          (codes "host") fields) known.hosts);
      transfer =
          ap (λ t. t || c.is_same-2.result) known.transfer ∙ ap (λ t. has_transfer fields || t) c.is_same-2.ensures
          ∙ sym (transfer_more fields f);
      lengths = count_more (codes "content-length") fields f.0 f.1 c.is_same-3.result c.and-self-2.result c.is_same-3.ensures
          (c.and-self-2.ensures (values_of (codes "content-length") fields) known.lengths);
      closes =
          ap (λ t. t || c.is_closing.result) known.closes
          ∙ ap (λ t. list_any names_close (values_of (codes "connection") fields) || t) c.is_closing.ensures
          ∙ sym (any_more names_close (codes "connection") fields f);
      member = count_more (codes "x-member") fields f.0 f.1 c.are_asked-is_member.result.0 c.and-self-3.result c.are_asked-is_member.ensures.member
          (c.and-self-3.ensures (values_of (codes "x-member") fields) known.member);
      moment = count_more (codes "x-moment") fields f.0 f.1 c.are_asked-is_member.result.1 c.and-self-4.result c.are_asked-is_member.ensures.moment
          (c.and-self-4.ensures (values_of (codes "x-moment") fields) known.moment);
    }
