-- Document 01, "Answer numbers", and document 02, §5 and §8: the number of each answer, and the place that goes with it.
use Rattle.std.specs.Prelude.{ℕ}
use Rattle.terms.specs.declared.Part.{Part}
use Rattle.terms.specs.declared.Part.TheVariants.{Request, Item, TooLong, NotMatching, Count, Checksum}
use Rattle.terms.specs.declared.Answer.{Answer}
use Rattle.terms.specs.declared.Answer.TheVariants.{Done, AreaTooSmall, NoSuchPanel, WrongLength, NotForUs, EnvelopeWrong, NotUnderstood, BadConfiguration, StatusByBroadcast, PartWrong}

-- Document 02, §8: "9 request, 10 item, 11 over 499, 12 not matching, 13 byte count, 14 checksum"
abbrev pub part_number : Part → ℕ
part_number Request = 9
part_number Item = 10
part_number TooLong = 11
part_number NotMatching = 12
part_number Count = 13
part_number (Checksum place) = 14

-- "With each goes the place of the first byte of the guilty field": the checksum stands last in its frame, wherever that is
abbrev pub part_place : Part → ℕ
part_place Request = 8
part_place Item = 9
part_place TooLong = 11
part_place NotMatching = 11
part_place Count = 1
part_place (Checksum place) = place

abbrev pub number_of : Answer → ℕ
number_of Done = 0
number_of AreaTooSmall = 1
number_of NoSuchPanel = 2
number_of WrongLength = 3
number_of NotForUs = 4
number_of EnvelopeWrong = 5
number_of NotUnderstood = 6
number_of BadConfiguration = 7
number_of StatusByBroadcast = 8
number_of (PartWrong p) = part_number p

-- "other answers have place 0"
abbrev pub answer_place : Answer → ℕ
answer_place Done = 0
answer_place AreaTooSmall = 0
answer_place NoSuchPanel = 0
answer_place WrongLength = 0
answer_place NotForUs = 0
answer_place EnvelopeWrong = 0
answer_place NotUnderstood = 0
answer_place BadConfiguration = 0
answer_place StatusByBroadcast = 0
answer_place (PartWrong p) = part_place p
