use Rattle.std.proofs.Common.{inl, inr, refl}
use Rattle.std.proofs.KnownBytes.{Keeps-refl}
use Rattle.clap.specs.declared.error.kind.ErrorKind.TheVariants.{OutOfMemory}
use Rattle.jobs.proofs.command_line.obey.Goals as goal

pub returns-in-Err : goal.returns-in-Err
returns-in-Err g c = inr record {
  kind = OutOfMemory;
  due = inl refl;
  concludes = inr (inr record {
    tells = c.refuse.ensures.message;
    keeps = Keeps-refl _;
    working = c.requires.writes;
    ends = c.refuse.ensures.status;
  });
}
