-- a call that was interrupted added nothing
use Rattle.std.specs.Io.KnownBytes.{Keeps}
use Rattle.tcp.proofs.stream.SteadyWrite.write.Given as goal

abbrev pub invariant-loop : goal.invariant-loop
invariant-loop g l = Keeps (g.S.Write.contents l.initial.self.stream) (g.S.Write.contents l.self.stream)
