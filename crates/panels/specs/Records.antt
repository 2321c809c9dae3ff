-- Document 01, "The box and its messages" and "Start values": the records, their codes and their start values.
use Rattle.std.specs.Prelude.{ℕ, List, [], ◌∷◌, replicate, pos}
use Rattle.settings.specs.Table.{starts}
use Rattle.panels.specs.declared.WRecord.{WRecord}
use Rattle.panels.specs.declared.KRecord.{KRecord}
use Rattle.panels.specs.declared.Panel.{Panel}
use Rattle.panels.specs.declared.DisplayBox.{DisplayBox}

-- the family's byte in the record: the letters W and K
abbrev pub family_w : ℕ
family_w = 0x57

abbrev pub family_k : ℕ
family_k = 0x4b

-- "COMPOSITE 0, Y/C 2, RGB 4, COMPONENT 5, OPTION A-1 6, A-2 7, DVI 8, HD15 9, OPTION B-1 10, B-2 11"
abbrev pub connectors : List ℕ
connectors = 0 ∷ 2 ∷ 4 ∷ 5 ∷ 6 ∷ 7 ∷ 8 ∷ 9 ∷ 10 ∷ 11 ∷ []

-- "Presets: D93 0, USER 2, D65 3."
abbrev pub presets : List ℕ
presets = 0 ∷ 2 ∷ 3 ∷ []

-- INPT's "type 1, 3, 4 or 5"
abbrev pub kinds : List ℕ
kinds = 1 ∷ 3 ∷ 4 ∷ 5 ∷ []

-- "VOLU, 16 decimal digits, 0 to 100 (house)"
abbrev pub most_volume : ℕ
most_volume = 100

-- the scenes' numbers: `auto` 0, `auto24pSync` 1, `general` 2
abbrev pub last_scene : ℕ
last_scene = 2

-- "W: PHASE 50, [.. the table's start values ..], shifts 0; COMPOSITE, all connectors ON, D65, gains 2048, biases 0."
abbrev pub start_w : WRecord
start_w = record {
  settings = starts;
  shifts = replicate 2 (pos 0);
  spare = 0;
  inputs = record { used = 0; preset = 3; on = replicate 10 1 };
  balance = record { gains = replicate 3 2048; biases = replicate 3 (pos 0) };
}

-- "K: standby, HDMI port 1, volume 0, no mutes, `general`." The scenes are numbered auto 0, auto24pSync 1, general 2.
abbrev pub start_k : KRecord
start_k = record { power = 0; amut = 0; pmut = 0; volume = 0; scene = 2; kind = 1; port = 1 }

-- a place that holds no panel: all zeros
abbrev pub zero_panel : Panel
zero_panel = record {
  family = 0;
  group = record { 0 = 0 };
  unit = record { 0 = 0 };
  spare = 0;
  w = record {
    settings = replicate 19 0;
    shifts = replicate 2 (pos 0);
    spare = 0;
    inputs = record { used = 0; preset = 0; on = replicate 10 0 };
    balance = record { gains = replicate 3 0; biases = replicate 3 (pos 0) };
  };
  k = record { power = 0; amut = 0; pmut = 0; volume = 0; scene = 0; kind = 0; port = 0 };
}

-- the one box of no panels
abbrev pub no_box : DisplayBox
no_box = record { count = 0; panels = replicate 8 zero_panel }

-- what a list of panels reads past its end
abbrev pub past_end : Panel
past_end = record {
  family = 0;
  group = record { 0 = 0 };
  unit = record { 0 = 0 };
  spare = 0;
  w = record {
    settings = [];
    shifts = [];
    spare = 0;
    inputs = record { used = 0; preset = 0; on = [] };
    balance = record { gains = []; biases = [] };
  };
  k = record { power = 0; amut = 0; pmut = 0; volume = 0; scene = 0; kind = 0; port = 0 };
}
