-- Demand 2, whole.
-- Assumes nothing.
use Rattle.rule.specs.Demands.{Demand2}
use Rattle.demands.proofs.Stands.{built, packs, checked, written, printed}
use Rattle.demands.proofs.Reader.{read}
use Rattle.demands.proofs.Canonical.{canonical, root_last}
use Rattle.demands.proofs.Counts.{counts, asks, walks_ask, asked_total_lem, asked_by_flag}
use Rattle.demands.proofs.Exists.{exists}
use Rattle.demands.proofs.Needs.{needs}
use Rattle.demands.proofs.Suffices.{suffices}
use Rattle.demands.proofs.Same.{one_diagram}
use Rattle.demands.proofs.NoRoom.{no_room_built, no_room_packed, no_room_made}

pub demand2 : Demand2
demand2 =
    record {
      built = built;
      packs = packs;
      checked = checked;
      read = read;
      written = written;
      printed = printed;
      canonical = canonical;
      root_last = root_last;
      counts = counts;
      exists = exists;
      asks = asks;
      walks_ask = walks_ask;
      asked_total_lem = asked_total_lem;
      asked_by_flag = asked_by_flag;
      one_diagram = one_diagram;
      needs = needs;
      suffices = suffices;
      no_room_built = no_room_built;
      no_room_packed = no_room_packed;
      no_room_made = no_room_made;
    }
