-- What the program's own types stand for.
use Rattle.std.specs.Prelude.{option_map, string_bytes}
use Rattle.gn_io.specs.declared.sink.Put.{Put}
use Rattle.gn_io.specs.declared.sink.Put.TheVariants.{All, Failed}
use Rattle.gn_app.specs.Command as commands
use Rattle.gn_app.specs.Ending as endings
use Rattle.gn_app.specs.declared.request.Request.{Request}
use Rattle.gn_app.specs.declared.request.Request.TheVariants.{Eval, Check, Help, Version}
use Rattle.gn_app.specs.declared.ending.Ending.{Ending}
use Rattle.gn_app.specs.declared.ending.Ending.TheVariants.{Done, Misused, NoFile, Unreadable, Unwritable, NoJson, Misformed, BadLine, Overlong, NotBuilt, NoMemory}

abbrev pub command_of : Request → commands.Command
command_of (Eval tree input) = commands.eval tree.now input.now
command_of (Check tree) = commands.check tree.now
command_of Help = commands.help
command_of Version = commands.version

abbrev pub ending_of : Ending → endings.Ending
ending_of Done = endings.done
ending_of (Misused word) = endings.misused (option_map (λ w. w.now) word)
ending_of (NoFile name) = endings.no_file name.now
ending_of (Unreadable name) = endings.unreadable name.now
ending_of (Unwritable taken) = endings.unwritable taken
ending_of NoJson = endings.no_json
ending_of (Misformed place rule) = endings.misformed rule (string_bytes place)
ending_of (BadLine line rule) = endings.bad_line line rule
ending_of (Overlong name length) = endings.overlong name.now length
ending_of NotBuilt = endings.not_built
ending_of NoMemory = endings.no_memory

-- how a run ends whose output was put so
abbrev pub put_ending : Put → endings.Ending
put_ending All = endings.done
put_ending (Failed taken) = endings.unwritable taken
