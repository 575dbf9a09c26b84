use Rattle.store_house.proofs.ArrangedLemmas.{found_in_order}
use Rattle.store_house.proofs.by_names.names_find_tables.Goals as goal

pub returns : goal.returns
returns c below db table order house = found_in_order below db table order house
