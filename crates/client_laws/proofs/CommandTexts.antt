-- The words of a command are texts, and its number is one that the table takes (own: words are UTF-8).
use Rattle.std.specs.Prelude.{◌^◌, ◌<◌, IsUtf8, IfSome, ⊤}
use Rattle.engine_text.specs.Words.{AreUtf8}
use Rattle.client_model.specs.declared.command.NewContainer.{NewContainer}
use Rattle.client_model.specs.declared.command.Restart.{Restart}
use Rattle.client_model.specs.declared.command.Command.{Command}
use Rattle.client_model.specs.declared.command.Command.TheVariants as command

abbrev pub IsRestart : Restart → Type 0
IsRestart restart = IsUtf8 restart.policy × (restart.most < 10 ^ 10)

abbrev pub IsContainer : NewContainer → Type 0
IsContainer c =
    IfSome c.name IsUtf8 × IfSome c.restart IsRestart × AreUtf8 c.binds × IsUtf8 c.image × AreUtf8 c.words

abbrev pub HasTexts : Command → Type 0
HasTexts (command.Create c) = IsContainer c
HasTexts (command.Run c remove) = IsContainer c
HasTexts (command.Start target) = IsUtf8 target
HasTexts (command.Pause target) = IsUtf8 target
HasTexts (command.Unpause target) = IsUtf8 target
HasTexts (command.Stop target seconds) = IsUtf8 target × IfSome seconds IsUtf8
HasTexts (command.Restart target seconds) = IsUtf8 target × IfSome seconds IsUtf8
HasTexts (command.Kill target signal) = IsUtf8 target × IfSome signal IsUtf8
HasTexts (command.Remove target force) = IsUtf8 target
HasTexts (command.Rename target name) = IsUtf8 target × IsUtf8 name
HasTexts (command.Update target restart) = IsUtf8 target × IsRestart restart
HasTexts (command.List all) = ⊤
HasTexts (command.Inspect target) = IsUtf8 target
HasTexts command.Version = ⊤
HasTexts (command.Logs target follow) = IsUtf8 target
HasTexts (command.Attach target) = IsUtf8 target
HasTexts (command.Exec target words input) = IsUtf8 target × AreUtf8 words
HasTexts (command.Wait target) = IsUtf8 target
HasTexts (command.Events since until) = IsUtf8 since × IsUtf8 until
HasTexts (command.Watch until) = IsUtf8 until
HasTexts (command.Health until target) = IsUtf8 until × IsUtf8 target
HasTexts (command.VolumeCreate name) = IsUtf8 name
HasTexts (command.VolumeInspect name) = IsUtf8 name
HasTexts (command.VolumeRemove name) = IsUtf8 name
HasTexts command.VolumeList = ⊤
HasTexts command.Journal = ⊤
HasTexts (command.Replay upgrade seed moment) = ⊤
