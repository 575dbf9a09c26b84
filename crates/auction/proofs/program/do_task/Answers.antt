use Rattle.auction.proofs.program.do_task.Goals as goal

pub returns-in-Serve-clause-done : goal.returns-in-Serve-clause-done
returns-in-Serve-clause-done g c = rw c.in-Serve.is c.serve_file.ensures.served

pub returns-in-Import-clause-done : goal.returns-in-Import-clause-done
returns-in-Import-clause-done g c = rw c.in-Import.is c.import_file.ensures.imported

pub returns-in-Statement-clause-done : goal.returns-in-Statement-clause-done
returns-in-Statement-clause-done g c = rw c.in-Statement.is c.statement_file.ensures.stated

pub returns-in-Bands-clause-done : goal.returns-in-Bands-clause-done
returns-in-Bands-clause-done g c = rw c.in-Bands.is c.bands_file.ensures.set

pub returns-in-Replay-clause-made : goal.returns-in-Replay-clause-made
returns-in-Replay-clause-made g c = rw c.in-Replay.is c.replay_input.ensures.made
