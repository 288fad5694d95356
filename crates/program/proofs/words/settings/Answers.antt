use Rattle.std.proofs.Common.{◌≡◌, List, Ok, Err, codes, rules, subst, sym}
use Rattle.clap.specs.Matches.{found_of}
use Rattle.command_line.specs.OptionValues.{IsValue}
use Rattle.program.proofs.Common.{AreGiven, AreRefused, Founding, Row, rows_of}
use Rattle.program.proofs.GivenSettings.{refused_are, taken_are}
use Rattle.program.proofs.words.settings.Goals as goal

pub returns-in-Ok-clause-given : goal.returns-in-Ok-clause-given
returns-in-Ok-clause-given c =
    let rows : List Row = rows_of (found_of c.args.found.now) in
    let founding : Founding = record {
      settings = record {
        country = c.as_str.result.now;
        repo = c.as_str-2.result.now;
        seats = c.number-seats.result;
        daily = c.number-daily.result;
        hands = c.number-hands.result;
        run_size = c.number-run.result;
      };
      day = c.in-Some.day;
    } in
    let country : c.in_ok-country.country ≡ c.as_str.result.now = search rules in
    let repo : c.in_ok-repo.repo ≡ c.as_str-2.result.now = search rules in
    let given : AreGiven rows founding = record {
      country = subst (IsValue rows (codes "country")) country c.in_ok-country.ensures;
      repo = subst (IsValue rows (codes "repo")) repo c.in_ok-repo.ensures;
      seats = c.number-seats.ensures;
      daily = c.number-daily.ensures;
      hands = c.number-hands.ensures;
      run_size = c.number-run.ensures;
      day = c.in-Some.ensures;
    } in
    taken_are rows founding (Ok c.in-Ok.settings) c.in-Ok.ensures given

pub returns-clause-refused : goal.returns-clause-refused
returns-clause-refused c =
    let rows : List Row = rows_of (found_of c.args.found.now) in
    let founding : Founding = record {
      settings = record {
        country = c.as_str.result.now;
        repo = c.as_str-2.result.now;
        seats = c.number-seats.result;
        daily = c.number-daily.result;
        hands = c.number-hands.result;
        run_size = c.number-run.result;
      };
      day = c.in-Some.day;
    } in
    let country : c.in_ok-country.country ≡ c.as_str.result.now = search rules in
    let repo : c.in_ok-repo.repo ≡ c.as_str-2.result.now = search rules in
    let given : AreGiven rows founding = record {
      country = subst (IsValue rows (codes "country")) country c.in_ok-country.ensures;
      repo = subst (IsValue rows (codes "repo")) repo c.in_ok-repo.ensures;
      seats = c.number-seats.ensures;
      daily = c.number-daily.ensures;
      hands = c.number-hands.ensures;
      run_size = c.number-run.ensures;
      day = c.in-Some.ensures;
    } in
    subst (AreRefused rows) (sym c.from.ensures) (refused_are rows founding (Err c.in-Err.fault) c.in-Err.ensures given)
