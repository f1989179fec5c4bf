use Rattle.flowsheet_examples.proofs.Computed.{bad_kind, bad_version, not_toml, stream_twice, unknown_key}
use Rattle.flowsheet_examples.proofs.examples.refusals_at_examples.Goals as goal

pub returns-clause-not_toml : goal.returns-clause-not_toml
returns-clause-not_toml c = not_toml

pub returns-clause-unknown_key : goal.returns-clause-unknown_key
returns-clause-unknown_key c = unknown_key

pub returns-clause-version : goal.returns-clause-version
returns-clause-version c = bad_version

pub returns-clause-stream : goal.returns-clause-stream
returns-clause-stream c = stream_twice

pub returns-clause-kind : goal.returns-clause-kind
returns-clause-kind c = bad_kind
