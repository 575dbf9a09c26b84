use Rattle.order_laws.proofs.TransferLemmas.{own_schema, own_sound}
use Rattle.order_laws.proofs.databases_in_order_are_databases.Goals as goal

pub returns : goal.returns
returns c inner outer schema below h table up plain sound =
    (own_schema inner outer h schema below table up plain sound, own_sound inner outer h schema below table up plain sound)
