-- Document 02, §7: the plain reader "has two rules over a whole buffer: between packets, and in a packet, each passing the rest of the
-- bytes to the other". What can begin a packet, and how much of it stands whole, are §1's.
use Rattle.std.specs.Prelude.{ℕ, ◌+◌, ◌-◌, cond, List, [], ◌∷◌, take, drop, set, replicate, eqb, ltb, leb}
use Rattle.receiver.specs.Stream.{can_begin, whole}
use Rattle.reader.specs.declared.Listing.{Listing}

abbrev pub listing : ℕ → List ℕ → List ℕ → ℕ → ℕ → Listing
listing count starts lengths end stopped = record { count = count; starts = starts; lengths = lengths; end = end; stopped = stopped }

-- "It lists the start and length of each packet and of each overlong header": one entry more
abbrev pub noted : Listing → ℕ → ℕ → Listing
noted l at k = listing (l.count + 1) (set l.starts l.count at) (set l.lengths l.count k) l.end l.stopped

-- "and where an unfinished tail begins, else the buffer's end"
abbrev pub ends_at : Listing → ℕ → Listing
ends_at l at = listing l.count l.starts l.lengths at 0

-- "the plain reader stops at the start of a 65th and says where"
abbrev pub stops_at : Listing → ℕ → Listing
stops_at l at = listing l.count l.starts l.lengths at 1

unfoldable mutual
  -- "between packets": a byte that can begin no packet is passed over. What begins one and is not whole is "an unfinished tail"; what is
  -- whole is listed, and behind its first byte the rest is passed to the other rule, or it is "a 65th"
  pub between : List ℕ → ℕ → Listing → Listing
  between [] at l = ends_at l at
  between (x ∷ xs) at l =
      cond (can_begin (x ∷ xs))
      (cond (eqb (whole (x ∷ xs)) 0)
      (ends_at l at)
      (cond (ltb l.count 64) (inside xs (whole (x ∷ xs) - 1) (at + 1) (noted l at (whole (x ∷ xs)))) (stops_at l at)))
      (between xs (at + 1) l)

  -- "and in a packet": k bytes of it are to come, and behind the last of them the rest is passed back
  pub inside : List ℕ → ℕ → ℕ → Listing → Listing
  inside [] k at l = ends_at l at
  inside (x ∷ xs) k at l = cond (leb k 1) (between xs (at + 1) l) (inside xs (k - 1) (at + 1) l)

-- "The list holds 64 entries": none yet
unfoldable pub no_entries : Listing
no_entries = listing 0 (replicate 64 0) (replicate 64 0) 0 0

unfoldable pub plain : List ℕ → Listing
plain b = between b 0 no_entries

-- the things that are listed, in their order: each is so many bytes of the buffer, from its start on
unfoldable pub parts_at : List ℕ → List ℕ → List ℕ → List (List ℕ)
parts_at b [] ks = []
parts_at b (s ∷ ss) [] = []
parts_at b (s ∷ ss) (k ∷ ks) = take k (drop s b) ∷ parts_at b ss ks

abbrev pub parts : List ℕ → Listing → List (List ℕ)
parts b l = parts_at b (take l.count l.starts) (take l.count l.lengths)
