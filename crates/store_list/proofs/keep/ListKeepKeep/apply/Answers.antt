use Rattle.std.proofs.Common.{◌∙◌, inl, rules}
use Rattle.std.proofs.lemmas.Result.{on_err_weaker}
use Rattle.store_list.proofs.Changing.{always_ok}
use Rattle.store_list.proofs.keep.ListKeepKeep.apply.Goals as goal

pub returns : goal.returns
returns c = record {
  ok = search rules;
  err = search rules;
  faults = search rules;
  honest = search rules;
  stays = search rules;
  kept = λ _. always_ok c.change.result (λ t is. is);
  crash = λ _. on_err_weaker c.change.result (λ same t is. inl (is ∙ same)) c.change.ensures.err;
}
