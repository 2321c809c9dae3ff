-- `put_settings` puts the words of one setting a turn: what is put, and the settings from the index on, are all of them.
use lib.ListN.{drop}
use Rattle.script_text.proofs.Puts.{Underway}
use Rattle.script_show.specs.Shown.{shown_names, settings_text}
use Rattle.script_show.proofs.put_settings.Given as goal

abbrev pub invariant-loop-k : goal.invariant-loop-k
invariant-loop-k l = Underway (settings_text l.w shown_names) (settings_text l.w (drop l.k-index shown_names)) l.initial.out l.at l.out l.to
