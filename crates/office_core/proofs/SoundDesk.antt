-- The desk stays sound.
use Rattle.std.proofs.Common.{◌≡◌, ℕ, zero, suc, false, List, [], Some, None, refl, sym, ◌∙◌, arith}
use Rattle.std.specs.Prelude.{ℤ}
use Rattle.office_core.proofs.Common.{AreFiled, Command, IsFiled, IsSoundDesk, OpenToHolders, Order, Settings, State}
use Rattle.office_core.proofs.Common.{after, checks, false≢true, length-replicate, nth, option_map, start, state_after}
use Rattle.office_core.proofs.Steps.{Passes, run_keeps}
use Rattle.office_core.proofs.Boxes.{apart_after}
use Rattle.office_core.proofs.Filed.{filed_after}
use Rattle.office_core.proofs.Orders.{orders_after}
use Rattle.office_core.proofs.Seats.{seats_after, none_sits, free_once}
use Rattle.office_core.proofs.Places.{places_after, out_order}
use Rattle.office_core.proofs.RunLines.{runs_after}
use Rattle.office_core.proofs.Readers.{readers_after, permits_after}

pub desk_after : (s : State) (asked : Command) → IsSoundDesk s → Passes (checks s asked) → IsSoundDesk (after s asked)
desk_after s asked g ok =
    record {
      boxes = apart_after s asked g.boxes;
      filed = filed_after s asked g.filed ok;
      orders = orders_after s asked g.boxes g.filed g.orders ok;
      seats = seats_after s asked g.boxes g.seats ok;
      places = places_after s asked g.boxes g.filed g.orders g.places ok;
      runs = runs_after s asked g.boxes g.runs ok;
      readers = readers_after s asked g.readers ok;
      permits = permits_after s asked g.boxes g.permits ok;
    }

pub always_sound_desk : (s : State) (later : List Command) → IsSoundDesk s → IsSoundDesk (state_after s later)
always_sound_desk = run_keeps IsSoundDesk desk_after

pub no_value : {X : Type 0} (n : ℕ) (x : X) → nth {X = X} [] n ≡ Some x → ⊥
no_value zero x e = cc
no_value (suc n) x e = cc

filed_start : (settings : Settings) (day : ℤ) → AreFiled (start settings day)
filed_start settings day = record { each = at; queues = λ c. tt }
  where
    at : (o : ℕ) → IsFiled (option_map (λ order. order.container) (nth {X = Order} [] o)) (λ c. false) (λ c. false) None
    at zero = ((λ c. refl), (λ c. refl), refl)
    at (suc o) = ((λ c. refl), (λ c. refl), refl)

pub desk_start : (settings : Settings) (day : ℤ) → IsSoundDesk (start settings day)
desk_start settings day =
    record {
      boxes = refl;
      filed = filed_start settings day;
      orders = record {
        each = λ o order e. absurd (no_value o order e);
        daily = λ t d. omega arith;
        once = λ o p order other ho hp. absurd (no_value o order ho);
        few = omega arith;
      };
      seats = record {
        count = length-replicate settings.seats None;
        known = λ t h. absurd (false≢true (sym (none_sits t settings.seats) ∙ h));
        once = free_once settings.seats;
      };
      places = record {
        holders = λ c o order e h. absurd (no_value o order h);
        known = λ c h. refl;
      };
      runs = record { each = λ n run e. absurd (no_value n run e); few = omega arith };
      readers = record { names = λ t reader e. absurd (no_value t reader e); few = omega arith };
      permits = record { known = λ t h. refl; by_unit = λ t. tt; few = λ t. omega arith };
    }

pub open_to_holders : (s : State) → IsSoundDesk s → OpenToHolders s
open_to_holders s g c o e = let x = out_order s c o g.filed e in (x.0, x.1, g.places.holders c o x.0 e x.1)
