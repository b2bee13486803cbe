use Rattle.shelf.proofs.shelf.Shelf.make.Goals as goal

pub returns-clause-shelf : goal.returns-clause-shelf
returns-clause-shelf c =
    let e = c.in_ok-base.ensures in
    record {
      is_base = e.base;
      apart = c.requires.apart;
      are_checkpoints = e.checkpoints;
      rests = e.rests;
      enough = e.enough;
    }
