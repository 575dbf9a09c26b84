use Rattle.lives.proofs.Turns.{of_some}
use Rattle.lives.proofs.connections_are_messages_in_turn.Goals as goal

pub returns : goal.returns
returns g c zone most count old last some =
    of_some g.K.Keep g.C.Input.Source g.C.Output.Sink g.C.Connections.accepts g.C.Connections.ends zone
    most count old last some
