use Rattle.lives.proofs.ends_leave_databases.Goals as goal

pub returns : goal.returns
returns g c keep files left ended clean may =
    let held = ended.kept clean in
    (held.honest, held.left left may)
