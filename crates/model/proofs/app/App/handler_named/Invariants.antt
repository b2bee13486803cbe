use Rattle.std.proofs.Common.{◌≡◌, drop}
use Rattle.std.specs.List.{position_from}
use Rattle.std.specs.Str.{bytes_eq}
use Rattle.model.specs.Application.{Handler}
use Rattle.model.specs.Words.{handler_named}
use Rattle.model.proofs.app.App.handler_named.Given as goal

abbrev pub invariant-loop-index : goal.invariant-loop-index
invariant-loop-index l =
    handler_named l.self l.name ≡ position_from (λ (h : Handler). bytes_eq h.name l.name) l.index (drop l.index l.self.handlers)
