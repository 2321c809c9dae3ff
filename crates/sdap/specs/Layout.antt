-- Document 01, "SDAP advert, 122 bytes": the layout, written and read.
use Rattle.std.specs.Prelude.{ℕ, List, [], ◌∷◌, ◌++◌, get_or, replicate}
use Rattle.laws.specs.Bytes.{ascii, part}
use Rattle.laws.specs.Numbers.{number, in_bytes}
use Rattle.terms.specs.declared.GroupId.{GroupId}
use Rattle.terms.specs.declared.UnitId.{UnitId}
use Rattle.sdap.specs.declared.Advert.{Advert}
use Rattle.sdap.specs.declared.Fields.{Fields}

-- an advert of these fields
abbrev pub advert_of : ℕ → List ℕ → ℕ → ℕ → List ℕ → ℕ → List ℕ → ℕ → List ℕ → List ℕ → GroupId → UnitId → Advert
advert_of category product serial power location connected accepted error region name group unit = record {
  category = category;
  product = product;
  serial = serial;
  power = power;
  location = location;
  connected = connected;
  accepted = accepted;
  error = error;
  region = region;
  name = name;
  group = group;
  unit = unit;
}

-- the advert that fields lent by reference say
abbrev pub lent_of : Fields → Advert
lent_of f =
    advert_of f.category f.product.now f.serial f.power f.location.now f.connected f.accepted f.error f.region.now f.name.now f.group f.unit

-- "DA" 0; version 04h 2; category 3; "SONY" 4; product (12) 8; serial (4) 20; power (2) 24; location (24) 26;
abbrev pub head_of : Advert → List ℕ
head_of a =
    ascii "DA" ++ (4 ∷ a.category ∷ []) ++ ascii "SONY" ++ a.product ++ in_bytes 4 a.serial ++ in_bytes 2 a.power ++ a.location

-- connected IP 50; four accepted IPs 54;
abbrev pub addresses_of : Advert → List ℕ
addresses_of a =
    in_bytes 4 a.connected
    ++ in_bytes 4 (get_or a.accepted 0 0)
    ++ in_bytes 4 (get_or a.accepted 1 0)
    ++ in_bytes 4 (get_or a.accepted 2 0)
    ++ in_bytes 4 (get_or a.accepted 3 0)

-- error (2) 70; region (24) 72; name (24) 96; group 120; unit 121.
abbrev pub tail_of : Advert → List ℕ
tail_of a = in_bytes 2 a.error ++ a.region ++ a.name ++ (a.group.0 ∷ a.unit.0 ∷ [])

-- the 122 bytes
unfoldable pub bytes_of : Advert → List ℕ
bytes_of a = head_of a ++ addresses_of a ++ tail_of a

-- each field from its place, "Numbers high byte first"
unfoldable pub fields_of : List ℕ → Advert
fields_of l = record {
  category = get_or l 3 0;
  product = part 8 12 l;
  serial = number (part 20 4 l);
  power = number (part 24 2 l);
  location = part 26 24 l;
  connected = number (part 50 4 l);
  accepted = number (part 54 4 l) ∷ number (part 58 4 l) ∷ number (part 62 4 l) ∷ number (part 66 4 l) ∷ [];
  error = number (part 70 2 l);
  region = part 72 24 l;
  name = part 96 24 l;
  group = record { 0 = get_or l 120 0 };
  unit = record { 0 = get_or l 121 0 };
}

-- "the fields, all zero when refused"
unfoldable pub no_fields : Advert
no_fields = record {
  category = 0;
  product = replicate 12 0;
  serial = 0;
  power = 0;
  location = replicate 24 0;
  connected = 0;
  accepted = replicate 4 0;
  error = 0;
  region = replicate 24 0;
  name = replicate 24 0;
  group = record { 0 = 0 };
  unit = record { 0 = 0 };
}
