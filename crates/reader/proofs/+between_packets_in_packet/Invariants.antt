-- Each rule is `between` from its place on; what is left falls: 2 bytes counted for each byte, and 1 more between packets.
use Prim.Native.Nat.{◌+◌, ◌*◌}
use lib.ListN.{length}
use Rattle.reader.proofs.+between_packets_in_packet.Given as goal

abbrev pub decreases-between_packets : goal.decreases-between_packets
decreases-between_packets l = 2 * length l.rest.now + 1

abbrev pub decreases-in_packet : goal.decreases-in_packet
decreases-in_packet l = 2 * length l.rest.now
