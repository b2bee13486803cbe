-- Which numbers the options of a campaign may be.
use Rattle.std.specs.Prelude.{ℕ, not, Option, Some, None, if◌then◌else◌}
use Rattle.model.specs.Scripts.{is_within}
use Rattle.requests.specs.declared.options.BadOption.{BadOption}
use Rattle.requests.specs.declared.options.BadOption.TheVariants.{Workers, Stride, Block}

-- the first number that is out of its range, if any is (profile)
abbrev pub bad_option : (workers stride block : ℕ) → Option BadOption
bad_option workers stride block =
    if not (is_within 1 64 workers) then Some Workers
    else if not (is_within 1 65536 stride) then Some Stride
    else if not (is_within 1 1000000 block) then Some Block
    else None
