use Rattle.public_queries.proofs.Common.{tells_passed}
use Rattle.public_queries.proofs.page_needs.read_containers.Goals as goal

pub returns-in_err-found : goal.returns-in_err-found
returns-in_err-found g c =
    let why = c.in_err-found.ensures.answers in
    record {
      answers = tells_passed _ c.from_residual.ensures why.aborts (λ o k it may kept.
          why.faults o k (record { version = g.P.Versioned.version; catalogue = it.catalogue; places = may.1.tellable.places }) may.1.tellable.containers kept);
    }
