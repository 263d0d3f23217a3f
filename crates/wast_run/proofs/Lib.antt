-- What the proofs of this crate cite from elsewhere
mod Common
-- Lists, and what was written: pieces behind one another, and parts of them
mod Lists
-- Words, and their lines
mod WordLines
-- Commands one behind another, and parts of a report
mod PartLaws
-- One report for commands, of which a part is a prefix
mod OneReport
mod ReportStops
-- Runs of sessions without hosts, and of the units of a linked set
mod Sessions
mod Comes
mod JoinedUnits
-- What a run says of an assertion
mod Assertions
-- A stage with one module or one call more
mod StageLaws
mod Comings
-- The commands of a script
mod ScriptLaws
-- What passes through the files
mod Passing
mod OnlyReads
-- Why the work stops
mod WorkLaws
-- What a stop means for the top call
mod JobLaws
mod TopLaws
-- Where files behave as files
mod Honest
-- The worked script
mod ExampleScript
