-- What the functions that serve a file pass on to each other: why nothing is served. No reader need believe it.
use Rattle.std.specs.Prelude.{Option}
use Rattle.byte_io.specs.declared.read.ReadFault.{ReadFault}
use Rattle.byte_io.specs.declared.read.ReadFault.TheVariants as read
use Rattle.model.specs.Application.{Application}
use Rattle.requests.specs.declared.named_point.NamedPoint.{NamedPoint}
use Rattle.script.specs.declared.fault.LoadError.{LoadError}
use Rattle.script.specs.declared.fault.LoadError.TheVariants as loading
use Rattle.campaign.specs.declared.file.ServeFault.{ServeFault}
use Rattle.campaign.specs.declared.file.ServeFault.TheVariants.{Read, Load, UnknownHandler, TooManyPoints, Memory}
use Rattle.campaign.specs.declared.points.ExpandFault.{ExpandFault}
use Rattle.campaign.specs.declared.points.ExpandFault.TheVariants as expanding
use Rattle.campaign.specs.Named.{IsFirstUnknown}
use Rattle.campaign.specs.OneRun.{names_asked}
use Rattle.campaign.specs.Campaigns.{HasTooManyPoints}

abbrev pub of_reading : ReadFault → ServeFault
of_reading read.Failed = Read
of_reading read.Memory = Memory

abbrev pub of_loading : LoadError → ServeFault
of_loading loading.Memory = Memory
of_loading (loading.Fault fault) = Load fault

-- why an application is not run to its end: no handler has the name, or no memory is left
abbrev pub IsRunFault : Option NamedPoint → Application → ServeFault → Type 0
IsRunFault asked app (UnknownHandler place) = IsFirstUnknown app (names_asked asked) place
IsRunFault asked app Memory = Unit {0}
IsRunFault asked app fault = ⊥

-- why the rows of an application are not made: there are too many points, or no memory is left
abbrev pub IsCampaignFault : Application → ServeFault → Type 0
IsCampaignFault app TooManyPoints = HasTooManyPoints app
IsCampaignFault app Memory = Unit {0}
IsCampaignFault app fault = ⊥

abbrev pub of_expanding : ExpandFault → ServeFault
of_expanding expanding.TooManyPoints = TooManyPoints
of_expanding expanding.Memory = Memory
