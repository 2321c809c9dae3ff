-- For the contracts of the code alone, no sentence of the document: a connector's place, where it is listed.
use Rattle.std.specs.Prelude.{ℕ, Option, eqb}
use Rattle.std.specs.List.{position}
use Rattle.panels.specs.Records.{connectors}

abbrev pub placed : ℕ → Option ℕ
placed code = position (eqb code) connectors
