use Rattle.std.proofs.Common.{subst}
use Rattle.line_reader.specs.Readings.{IsFed, ReadsEnded, reading}
use Rattle.line_reader.proofs.Steps.{refused-end, keeps-fed, reads-fed, keeps-left, reads-left, refused-left}
use Rattle.line_reader.proofs.reader.Progress.finish.Goals as goal

pub returns-in-Some-clause-refused : goal.returns-in-Some-clause-refused
returns-in-Some-clause-refused g c = λ text fed.
    let at = c.args.self in
    refused-end g.R.LineFormat.rules g.R.LineFormat.has_read text at.format at.number at.line.items at.commented at.refused c.in-Some.refused c.in-Some.is fed

pub returns-then-not-is_within_line-clause-kept : goal.returns-then-not-is_within_line-clause-kept
returns-then-not-is_within_line-clause-kept g c = λ text fed.
    let at = c.args.self in
    let progress = subst (λ refused. IsFed g.R.LineFormat.rules g.R.LineFormat.has_read
    (reading at.format at.number at.line.items at.commented refused) text) c.in_default.is fed in
    keeps-fed g.R.LineFormat.rules g.R.LineFormat.has_read text at.format at.number at.line.items at.commented
    (c.is_within_line.ensures.line c.if-not-is_within_line.true)
    (c.is_within_line.ensures.commented c.if-not-is_within_line.true) progress

pub returns-then-not-is_within_line-clause-read : goal.returns-then-not-is_within_line-clause-read
returns-then-not-is_within_line-clause-read g c = λ text fed.
    let at = c.args.self in
    let progress = subst (λ refused. IsFed g.R.LineFormat.rules g.R.LineFormat.has_read
    (reading at.format at.number at.line.items at.commented refused) text) c.in_default.is fed in
    reads-fed g.R.LineFormat.rules g.R.LineFormat.has_read text at.format at.number at.line.items at.commented
    (c.is_within_line.ensures.line c.if-not-is_within_line.true)
    (c.is_within_line.ensures.commented c.if-not-is_within_line.true) progress

pub returns-in-Some-refused-clause-refused : goal.returns-in-Some-refused-clause-refused
returns-in-Some-refused-clause-refused g c = λ text fed.
    let at = c.args.self in
    let new = c.read_ended.new.self in
    let progress = subst (λ refused. IsFed g.R.LineFormat.rules g.R.LineFormat.has_read
    (reading at.format at.number at.line.items at.commented refused) text) c.in_default.is fed in
    let read = subst (ReadsEnded g.R.LineFormat.rules g.R.LineFormat.has_read at.number at.line.items at.commented
    at.format new.format) c.in-Some-refused.is c.in_ok-read_ended.ensures.read in
    refused-left g.R.LineFormat.rules g.R.LineFormat.has_read text at.format at.number at.line.items at.commented
    new.format c.in-Some-refused.refused (c.is_within_line.ensures.within c.if-not-is_within_line.false) read
    progress

pub returns-in-None-clause-kept : goal.returns-in-None-clause-kept
returns-in-None-clause-kept g c = λ text fed.
    let at = c.args.self in
    let new = c.read_ended.new.self in
    let progress = subst (λ refused. IsFed g.R.LineFormat.rules g.R.LineFormat.has_read
    (reading at.format at.number at.line.items at.commented refused) text) c.in_default.is fed in
    let read = subst (ReadsEnded g.R.LineFormat.rules g.R.LineFormat.has_read at.number at.line.items at.commented
    at.format new.format) c.in-None.is c.in_ok-read_ended.ensures.read in
    keeps-left g.R.LineFormat.rules g.R.LineFormat.has_read text at.format at.number at.line.items at.commented
    new.format (c.is_within_line.ensures.within c.if-not-is_within_line.false) read progress

pub returns-in-None-clause-read : goal.returns-in-None-clause-read
returns-in-None-clause-read g c = λ text fed.
    let at = c.args.self in
    let new = c.read_ended.new.self in
    let progress = subst (λ refused. IsFed g.R.LineFormat.rules g.R.LineFormat.has_read
    (reading at.format at.number at.line.items at.commented refused) text) c.in_default.is fed in
    let read = subst (ReadsEnded g.R.LineFormat.rules g.R.LineFormat.has_read at.number at.line.items at.commented
    at.format new.format) c.in-None.is c.in_ok-read_ended.ensures.read in
    reads-left g.R.LineFormat.rules g.R.LineFormat.has_read text at.format at.number at.line.items at.commented
    new.format (c.is_within_line.ensures.within c.if-not-is_within_line.false) read progress
