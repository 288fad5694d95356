-- The office that has one unit number left is sound.
use Rattle.std.proofs.Common.{◌≡◌, ℕ, ◌+◌, ◌<◌, ◌≤◌, [], ◌∷◌, refl, arith}
use Rattle.std.proofs.Math.Utf8.{encode}
use Rattle.std.specs.Str.{is_utf8, chars}
use Rattle.csv.specs.Machine.{next_record}
use Rattle.csv.specs.Reading.{records_from, strip_bom}
use Rattle.atom_csv.specs.Columns.{columns}
use Rattle.atom_csv.specs.Values.{text_elements}
use Rattle.catalogue_core.specs.ContainerContents.{is_open}
use Rattle.catalogue_core.specs.Intake.{take}
use Rattle.office_core.specs.WorkedExamples.{new_office, import, ann, boxes, march_1, with_next, one_number_left}
use Rattle.office_core.specs.declared.command.Command.TheVariants as command
use Rattle.office_core.proofs.Common.{IsGoodLine, IsSound, IsSoundDesk, State, Unit, all_so, ints, most_unit_numbers}
use Rattle.office_core.proofs.Common.{nodes, state_after}
use Rattle.office_core.proofs.Starts.{starts_sound}
use Rattle.office_core.proofs.StaysSound.{always_sound}

-- the same office, before so many numbers were given
before : State
before = state_after new_office (import boxes ∷ ann ∷ command.Order 1 2 ∷ command.Run ∷ command.TakeSeat 1 ∷ command.Issue 2 1 ∷ [])

before_sound : IsSound before
unfolding before
before_sound =
    always_sound new_office (import boxes ∷ ann ∷ command.Order 1 2 ∷ command.Run ∷ command.TakeSeat 1 ∷ command.Issue 2 1 ∷ [])
    (tt, ((omega (arith, ints), omega (arith, ints)), (tt, (tt, (tt, (tt, tt))))))
    (starts_sound new_office.settings march_1 (record { country = refl; repo = refl; seats = refl; daily = refl; hands = refl; run_size = refl }) (omega (arith, ints), omega (arith, ints)))

next_now : before.catalogue.next ≡ 5
unfolding before is_open take is_utf8 chars encode records_from strip_bom next_record columns text_elements
next_now = refl

-- the numbers that are given do not matter at the desk
desk_with : (s : State) (n : ℕ) → IsSoundDesk s → IsSoundDesk (with_next n s)
desk_with s n d =
    record {
      boxes = d.boxes;
      filed = record { each = d.filed.each; queues = d.filed.queues };
      orders = record {
        each = λ o order e. (let g = d.orders.each o order e in record { ticket = g.ticket; container = g.container; day = g.day });
        daily = d.orders.daily;
        once = d.orders.once;
        few = d.orders.few;
      };
      seats = record { count = d.seats.count; known = d.seats.known; once = d.seats.once };
      places = record {
        holders = λ c o order e h. (let g = d.places.holders c o order e h in record { seated = g.seated; few = g.few; may_see = g.may_see });
        known = d.places.known;
      };
      runs = record {
        each = λ k run e. (let g = d.runs.each k run e in record { day = g.day; some = g.some; few = g.few; by_container = g.by_container; lines = all_so (IsGoodLine s) (IsGoodLine (with_next n s)) (λ line l. record { order = l.order; ticket = l.ticket }) run.lines g.lines });
        few = d.runs.few;
      };
      readers = record { names = d.readers.names; few = d.readers.few };
      permits = record { known = d.permits.known; by_unit = d.permits.by_unit; few = d.permits.few };
    }

-- a sound office stays so, where more numbers were given
with_more : (s : State) (n : ℕ) → s.catalogue.next ≤ n → n ≤ most_unit_numbers + 1 → IsSound s → IsSound (with_next n s)
with_more s n l h g =
    record {
      settings = g.settings;
      days = record {
        today = g.days.today;
        readers = g.days.readers;
        orders = g.days.orders;
        runs = g.days.runs;
        permits = g.days.permits;
        closures = g.days.closures;
      };
      units = record {
        each = g.units.each;
        ids = g.units.ids;
        pairs = g.units.pairs;
        given = all_so (λ (unit : Unit). (1 ≤ unit.id) × (unit.id < s.catalogue.next)) (λ (unit : Unit). (1 ≤ unit.id) × (unit.id < n)) (λ unit r. (r.0, (let low = r.1 in omega (arith, low, l)))) (nodes s.catalogue.forest) g.units.given;
        next = ((let low = g.units.next.0 in omega (arith, low, l)), h);
        few = g.units.few;
        depth = g.units.depth;
      };
      containers = record { named = g.containers.named; few = g.containers.few };
      permits = g.permits;
      desk = desk_with s n g.desk;
    }

pub one_left_sound : IsSound one_number_left
unfolding before
one_left_sound = with_more before most_unit_numbers (let five = next_now in omega (arith, five)) (omega arith) before_sound
