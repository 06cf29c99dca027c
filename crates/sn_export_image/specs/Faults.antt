-- What is told of an export once its mount is ended.
use Rattle.std.specs.Prelude.{Result, Ok, Err}
use Rattle.sn_model.specs.declared.end.End.{End}
use Rattle.sn_model.specs.declared.end.End.TheVariants as ending
use Rattle.sn_export_reading.specs.declared.fault.ExportFault.{ExportFault}
use Rattle.sn_export_reading.specs.declared.fault.ExportFault.TheVariants as export
use Rattle.sn_export_image.specs.declared.fault.ImageFault.{ImageFault}
use Rattle.sn_export_image.specs.declared.fault.ImageFault.TheVariants as fault

abbrev pub told_of : Result (Unit {0}) ExportFault → Result (Unit {0}) ImageFault
told_of (Ok done) = Ok tt
told_of (Err why) = Err (fault.Export why)

-- a fault of the unmount replaces one of the export
abbrev pub outcome_of : End → Result (Unit {0}) ExportFault → Result (Unit {0}) ImageFault
outcome_of ending.Clean written = told_of written
outcome_of ending.Memory written = Err (fault.Export export.Memory)
outcome_of ending.Stopped written = Err (fault.Export export.Stopped)
outcome_of (ending.Mount why) written = Err (fault.Mount why)
