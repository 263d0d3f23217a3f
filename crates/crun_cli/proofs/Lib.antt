-- What the proofs of this crate cite from elsewhere
mod Common
-- lines, sessions and the run of a task
mod Lines
mod Sessions
mod Behind
mod Steps
mod Recorded
mod RecordLaws
mod CallLists
-- hosts
mod Offered
mod EnvOffered
mod ReplaysOffered
-- what words ask for, form by form
mod RunForm
mod WriteForms
mod OneJob
-- what passes through the files
mod Passing
mod EndPasses
-- the top call
mod AgainLaws
mod TopLaws
mod HonestFiles
-- README's run
mod ExampleRun
