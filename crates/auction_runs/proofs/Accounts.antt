-- An account that was read from a keep.
use Rattle.std.proofs.Common.{◌≡◌, Bool, true, subst}
use Rattle.std.specs.Prelude.{is_some}
use Rattle.house_rows.specs.Found.{sales_to}
use Rattle.house_rows.specs.Keeping.{IsRead}
use Rattle.house_rows.specs.Pages.{member_at}
use Rattle.house_rows.specs.Tables.{Tables}
use Rattle.settle.specs.Statement.{Account, statement_of}
use Rattle.settle.specs.Zoned.{IsZoneOf}
use Rattle.settle.specs.declared.zone.Zone.{Zone}
use Rattle.auction_runs.specs.Stated.{HasRead}
use Rattle.auction_runs.specs.declared.statement.Inquiry.{Inquiry}

-- from what the look-up of the member and of its sales says
pub has_read : {K : Type 0} (content : K → Tables) (is_failed : K → Bool)
    (is_honest : K → Type 0) (may_leave : K → Tables → Type 0) (is_ended : K → Type 0)
    (asked : Inquiry) (given kept left : K) (account : Account) → kept ≡ given
    → IsRead content is_failed is_honest may_leave kept left
    → (is_honest left → is_some (member_at (content kept).members asked.member) ≡ true)
    → (is_honest left → (zone : Zone) × IsZoneOf (content kept).settings.zone zone
    × (account ≡ statement_of (sales_to (content kept) asked.member) asked.member asked.from asked.to
    zone (content kept).settings.rate))
    → is_ended left
    → HasRead content is_failed is_honest may_leave is_ended asked given account
has_read content is_failed is_honest may_leave is_ended asked given kept left account same read known
    shown ended =
    subst (λ k. HasRead content is_failed is_honest may_leave is_ended asked k account) same (record {
      left = left;
      read = read;
      shown = λ honest.
          let found = shown honest in
          record {
            known = known honest;
            zone = found.0;
            kept_zone = found.1;
            lines = found.2;
          };
      ended = ended;
    })
