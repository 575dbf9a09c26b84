-- A site's keep, lent.
use Rattle.std.specs.Borrow.{Lends, MutBor, Fml, RattleType}
use Rattle.site.specs.declared.engine.Site.{Site}
use Rattle.site.specs.contracts.engine.Site.{the_row}

-- a site over that keep, and else as it was
abbrev pub over_keep : {K : Type 0} → Site K → K → Site K
over_keep site keep = record site { keep = keep }

-- the site goes on over the keep that was last seen through r, and is else as it was
abbrev pub LendsKeep : (K : RattleType) → MutBor (Site K.Denot) → MutBor K.Denot → Fml
LendsKeep K site r = Lends (the_row K) K site r (over_keep site.now)
