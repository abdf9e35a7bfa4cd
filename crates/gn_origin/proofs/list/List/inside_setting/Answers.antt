use Rattle.gn_origin.specs.Reading.{scope_of}
use Rattle.gn_origin.proofs.Parts.{zone_holds, passes_on}
use Rattle.gn_origin.proofs.list.List.inside_setting.Goals as goal

pub returns-in-Zone : goal.returns-in-Zone
returns-in-Zone c has above kind rest = zone_holds (scope_of c.args.self above) c.args.setting.now c.in-Zone.zone c.in-Zone.is kind rest

pub returns-in_default : goal.returns-in_default
returns-in_default c has above kind rest found h = passes_on (scope_of c.args.self above) c.args.setting.now c.in_default.not-Group c.in_default.not-Zone kind rest found h
