use Rattle.std.proofs.Common.{sym, subst, ◌∙◌}
use Rattle.access.proofs.DiskBlames.{blames_caused}
use Rattle.adoption.proofs.Common.{HasCause, HasCleanDisk, state}
use Rattle.adoption.proofs.JudgmentEnds.{judged}
use Rattle.adoption.proofs.VersionLemmas.{shown_versions, versions_refused, versions_cause, looks_unchanged, cut_by}
use Rattle.adoption.proofs.version.versions.Goals as goal

pub returns-in-Ok : goal.returns-in-Ok
returns-in-Ok g c =
    let old = state g.S.Store c.args.conn.now in
    let new = state g.S.Store c.query_all.new.self in
    let shown = λ (clean : HasCleanDisk new). shown_versions old new c.in-Ok.rows.items (c.in-Ok.ensures.ok clean) in
    judged (looks_unchanged old new c.requires.inside c.query_all.ensures.survives (λ clean. (shown clean).1)) (λ clean. (shown clean).0)

pub returns-in-Schema : goal.returns-in-Schema
returns-in-Schema g c =
    let old = state g.S.Store c.args.conn.now in
    let new = state g.S.Store c.query_all.new.self in
    let refused = λ (clean : HasCleanDisk new). versions_refused old new c.in-Err.error c.requires.unlimited (c.in-Err.ensures.err clean) (sym c.from.ensures ∙ c.in-Schema.is) in
    judged (looks_unchanged old new c.requires.inside c.query_all.ensures.survives (λ clean. (refused clean).same)) (λ clean. (refused clean).cannot)

pub returns-in_default : goal.returns-in_default
returns-in_default g c =
    let old = state g.S.Store c.args.conn.now in
    let new = state g.S.Store c.query_all.new.self in
    let cut = cut_by old new c.requires.inside c.query_all.ensures.survives c.in-Err.error c.in-Err.ensures.err in
    let why = λ (clean : HasCleanDisk new). subst (HasCause old new) (sym c.from.ensures)
    (versions_cause old new c.in-Err.error c.requires.unlimited (c.in-Err.ensures.err clean) (λ is. c.in_default.not-Schema (c.from.ensures ∙ is))) in
    record {
      reads = record { crash = cut.crash; looks = tt; aborts = cut };
      answers = λ clean. tt;
      disk = λ clean. blames_caused old new _ (why clean);
      faults = λ known clean free. why clean;
    }
